-- What `image_on_input` owes. Assumes nothing.
use Rattle.reading.proofs.ReadLaws.{full_lent}
use Rattle.reading.proofs.image_on_input.Goals as goal

pub read_image-requires : goal.read_image-requires
read_image-requires g c = full_lent _ c.requires
