-- `run_fields` meets its contract. Assumes nothing.
use Rattle.entry.proofs.CallLaws.{parts_fit, call_says}
use mathlib.Core.Path.{refl}
use borrow.Author.Rules.{rules}
use Rattle.entry.proofs.run_fields.Goals as goal

pub run_core-x-requires : goal.run_core-x-requires
run_core-x-requires c = search rules

pub overflow_cast-result : goal.overflow_cast-result
overflow_cast-result c = search (rules, c.run_core-x.ensures.fits)

pub overflow_cast-result-2 : goal.overflow_cast-result-2
overflow_cast-result-2 c = search (rules, c.run_core-x.ensures.fits)

pub overflow_cast-result-3 : goal.overflow_cast-result-3
overflow_cast-result-3 c = search (rules, c.run_core-x.ensures.fits)

pub from_core-requires : goal.from_core-requires
from_core-requires c = search (rules, c.run_core-x.ensures.fits)

pub from_base-requires : goal.from_base-requires
from_base-requires c = let f = c.run_core-x.ensures.core_fits (parts_fit _ _ _ c.from-base.ensures.1 c.from-base.ensures.2 c.from-at.ensures.1 c.from-at.ensures.2 c.from-at.ensures.3) in (f.address_fits, f.length_fits)

pub from_core-requires-2 : goal.from_core-requires-2
from_core-requires-2 c = let f = c.run_core-x.ensures.core_fits (parts_fit _ _ _ c.from-base.ensures.1 c.from-base.ensures.2 c.from-at.ensures.1 c.from-at.ensures.2 c.from-at.ensures.3) in (f.ring_fits, f.segment_fits, f.word_fits)

pub returns : goal.returns
returns c = call_says _ _ _ _ _ _ _ _ c.from-base.ensures.0 c.from-at.ensures.0 _ _ _ _ _ c.run_core-x.ensures _ refl _ _ _ c.from_core.ensures c.from_core-2.ensures c.from_base.ensures
