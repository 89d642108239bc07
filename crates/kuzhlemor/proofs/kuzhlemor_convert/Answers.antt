-- `kuzhlemor_convert` meets its contract. Assumes nothing.
use Rattle.image.specs.Numbers.{image_number}
use borrow.Author.Rules.{rules}
use Rattle.calls.proofs.CallLaws.{answer_fits, answered, buffer_left}
use Rattle.kuzhlemor.proofs.kuzhlemor_convert.Goals as goal

pub signed-requires : goal.signed-requires
signed-requires c = answer_fits image_number _ _ _ c.convert.ensures

pub returns : goal.returns
returns c =
    let number_same = answered image_number _ _ _ c.convert.ensures _ c.signed.ensures in
    let bytes_same = buffer_left image_number _ _ _ c.convert.ensures in
    search rules
