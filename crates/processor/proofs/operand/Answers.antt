-- `operand` meets its contract. Assumes nothing.
use Rattle.processor.proofs.FormLaws.{operand_direct_law, operand_33_law, operand_chain_law}
use Rattle.std.proofs.Common.{ap}
use Rattle.std.specs.Prelude.{not}
use Rattle.processor.proofs.operand.Goals as goal

pub returns-then-not-entry-is_indirect : goal.returns-then-not-entry-is_indirect
returns-then-not-entry-is_indirect c =
    let h = operand_direct_law _ _ _ c.opcode.ensures _ _ c.entry_of-entry.ensures.operand_same c.is_indirect.ensures _ (ap not c.if-not-entry-is_indirect.true) c.first_address-first.ensures.0 in
    (h.0, h.1, c.first_address-first.ensures.1)

pub returns-then-entry-ipr : goal.returns-then-entry-ipr
returns-then-entry-ipr c = operand_33_law _ _ _ c.opcode.ensures _ _ c.entry_of-entry.ensures.operand_same c.is_indirect.ensures (ap not c.if-not-entry-is_indirect.false) _ c.entry_of-entry.ensures.privilege_same c.if-entry-ipr.true

pub returns : goal.returns
returns c = operand_chain_law _ _ _ c.opcode.ensures _ _ c.entry_of-entry.ensures.operand_same c.is_indirect.ensures (ap not c.if-not-entry-is_indirect.false) _ c.entry_of-entry.ensures.privilege_same _ _ c.if-entry-ipr.false c.first_address-first.ensures.0 c.effective.ensures
