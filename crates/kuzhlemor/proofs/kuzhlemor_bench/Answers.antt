-- `kuzhlemor_bench` meets its contract. Assumes nothing.
use Rattle.dosing.specs.Numbers.{bench_number}
use borrow.Author.Rules.{rules}
use Rattle.calls.proofs.CallLaws.{answer_fits, answered, buffer_left}
use Rattle.kuzhlemor.proofs.kuzhlemor_bench.Goals as goal

pub signed-requires : goal.signed-requires
signed-requires c = answer_fits bench_number _ _ _ c.bench.ensures

pub returns : goal.returns
returns c =
    let number_same = answered bench_number _ _ _ c.bench.ensures _ c.signed.ensures in
    let bytes_same = buffer_left bench_number _ _ _ c.bench.ensures in
    search rules
