-- `numbers_of` meets its contract. Assumes nothing.
use Rattle.checks.proofs.NumberLaws.{pointer_within, ring_within, refused_numbers, fault_numbers, passes_numbers}
use borrow.Author.Rules.{rules}
use Rattle.checks.proofs.numbers_of.Goals as goal

pub overflow_cast-result : goal.overflow_cast-result
overflow_cast-result c = search rules

pub nowhere-requires : goal.nowhere-requires
nowhere-requires c = search rules

pub overflow_cast-result-in-Fault : goal.overflow_cast-result-in-Fault
overflow_cast-result-in-Fault c = search rules

pub from_core-requires : goal.from_core-requires
from_core-requires c = let w = pointer_within _ _ _ c.in-Fault.is c.requires in search rules

pub overflow_cast-result-in-Passes : goal.overflow_cast-result-in-Passes
overflow_cast-result-in-Passes c = let w = ring_within _ _ c.in-Passes.is c.requires in search rules

pub nowhere-requires-in-Passes : goal.nowhere-requires-in-Passes
nowhere-requires-in-Passes c = search rules

pub returns-in-Refused : goal.returns-in-Refused
returns-in-Refused c = refused_numbers _ _ _ c.in-Refused.is c.nowhere.ensures

pub returns-in-Fault : goal.returns-in-Fault
returns-in-Fault c = fault_numbers _ _ _ _ c.in-Fault.is c.from_core.ensures

pub returns-in-Passes : goal.returns-in-Passes
returns-in-Passes c = passes_numbers _ _ _ c.in-Passes.is c.nowhere-in-Passes.ensures
