-- `put_image` meets its contract. Assumes nothing.
use mathlib.Core.Path.{refl}
use Rattle.model.specs.Listing.{ascii}
use Rattle.writing.proofs.PutLaws.{image_put}
use Rattle.writing.proofs.put_image.Goals as goal

pub returns : goal.returns
unfolding ascii
returns c =
    image_put _ _ _ _ _ _ _ _ _ _ _ _ _ _ refl refl c.put_marked-at_start.ensures c.put_start-at_words.ensures c.put_words-at_run.ensures
    c.put_marked.ensures c.requires
