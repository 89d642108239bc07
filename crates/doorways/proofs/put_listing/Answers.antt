-- `put_listing` meets its contract. Assumes nothing.
use Rattle.std.proofs.Common.{refl, ◌∙◌}
use Rattle.model.specs.Listing.{ascii}
use Rattle.doorways.proofs.ListLaws.{start_nonzero, refused_put, dbr_length_within, dbr_within_memory, listing_put}
use borrow.Author.Rules.{rules}
use Rattle.doorways.proofs.put_listing.Goals as goal

pub returns-in-Err : goal.returns-in-Err
unfolding ascii
returns-in-Err c =
    λ budget.
    let asked = c.number.ensures ∙ c.in-Err.ensures in let refused = start_nonzero _ _ c.number.ensures in search (rules, refused_put)

pub put_doors-lines-requires : goal.put_doors-lines-requires
put_doors-lines-requires c = (search rules, dbr_length_within _ _ _ c.in_default.ensures refl, dbr_within_memory _ _ _ c.in_default.ensures refl)

pub returns : goal.returns
unfolding ascii
returns c = λ budget. let asked = c.in_default.ensures in search (rules, listing_put)
