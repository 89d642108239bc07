-- `perform` meets its contract. Assumes nothing.
use mathlib.Core.Path.{refl}
use Rattle.dispatch.proofs.PerformLaws.{load_arm, transfer_arm, sta_arm, aos_arm, ldi_arm, eap_arm, call_arm, return_arm, spp_arm, ldbr_refused, hlt_refused, ldbr_arm, hlt_arm, rcu_refused, rcu_arm, unknown_arm, lda_entry, ada_entry, sba_entry, ana_entry, ora_entry, xra_entry, cnt_entry, tra_entry, tze_entry, tmi_entry}
use Rattle.dispatch.proofs.perform.Goals as goal

pub returns-then-core-ne0 : goal.returns-then-core-ne0
returns-then-core-ne0 c = ldbr_refused _ _ _ _ _ _ _ _ c.opcode-opcode.ensures c.in-40.is c.if-core-ne0.true _ c.faulted_by.ensures refl

pub returns-then-ipr-ne0 : goal.returns-then-ipr-ne0
returns-then-ipr-ne0 c = hlt_refused _ _ _ _ _ _ _ _ c.opcode-opcode.ensures c.in-41.is c.if-ipr-ne0.true _ c.faulted_by-then-ipr-ne0.ensures refl

pub returns-then-ipr-ne0-2 : goal.returns-then-ipr-ne0-2
returns-then-ipr-ne0-2 c = rcu_refused _ _ _ _ _ _ _ _ c.opcode-opcode.ensures c.in-42.is c.if-ipr-ne0-2.true _ c.faulted_by-then-ipr-ne0-2.ensures refl

pub returns-in-1 : goal.returns-in-1
returns-in-1 c = load_arm _ _ _ _ _ _ _ _ _ c.opcode-opcode.ensures _ c.in-1.is lda_entry c.load.ensures

pub returns-in-2 : goal.returns-in-2
returns-in-2 c = sta_arm _ _ _ _ _ _ _ _ _ c.opcode-opcode.ensures c.in-2.is c.store.ensures

pub returns-in-3 : goal.returns-in-3
returns-in-3 c = load_arm _ _ _ _ _ _ _ _ _ c.opcode-opcode.ensures _ c.in-3.is ada_entry c.load-in-3.ensures

pub returns-in-4 : goal.returns-in-4
returns-in-4 c = load_arm _ _ _ _ _ _ _ _ _ c.opcode-opcode.ensures _ c.in-4.is sba_entry c.load-in-4.ensures

pub returns-in-5 : goal.returns-in-5
returns-in-5 c = load_arm _ _ _ _ _ _ _ _ _ c.opcode-opcode.ensures _ c.in-5.is ana_entry c.load-in-5.ensures

pub returns-in-6 : goal.returns-in-6
returns-in-6 c = load_arm _ _ _ _ _ _ _ _ _ c.opcode-opcode.ensures _ c.in-6.is ora_entry c.load-in-6.ensures

pub returns-in-7 : goal.returns-in-7
returns-in-7 c = load_arm _ _ _ _ _ _ _ _ _ c.opcode-opcode.ensures _ c.in-7.is xra_entry c.load-in-7.ensures

pub returns-in-8 : goal.returns-in-8
returns-in-8 c = load_arm _ _ _ _ _ _ _ _ _ c.opcode-opcode.ensures _ c.in-8.is cnt_entry c.load-in-8.ensures

pub returns-in-9 : goal.returns-in-9
returns-in-9 c = aos_arm _ _ _ _ _ _ _ _ _ c.opcode-opcode.ensures c.in-9.is c.update.ensures

pub returns-in-10 : goal.returns-in-10
returns-in-10 c = ldi_arm _ _ _ _ _ _ _ _ _ c.opcode-opcode.ensures c.in-10.is c.load_literal.ensures refl

pub returns-in-16 : goal.returns-in-16
returns-in-16 c = eap_arm _ _ _ _ _ _ _ _ _ c.opcode-opcode.ensures c.in-16.is _ c.load_pointer.ensures refl

pub returns-in-17 : goal.returns-in-17
returns-in-17 c = spp_arm _ _ _ _ _ _ _ _ _ _ c.opcode-opcode.ensures c.in-17.is c.stored_pointer-value.ensures c.store-in-17.ensures

pub returns-in-24 : goal.returns-in-24
returns-in-24 c = transfer_arm _ _ _ _ _ _ _ _ _ c.opcode-opcode.ensures _ c.in-24.is tra_entry c.transfer.ensures

pub returns-in-25 : goal.returns-in-25
returns-in-25 c = transfer_arm _ _ _ _ _ _ _ _ _ c.opcode-opcode.ensures _ c.in-25.is tze_entry c.transfer-in-25.ensures

pub returns-in-26 : goal.returns-in-26
returns-in-26 c = transfer_arm _ _ _ _ _ _ _ _ _ c.opcode-opcode.ensures _ c.in-26.is tmi_entry c.transfer-in-26.ensures

pub returns-in-32 : goal.returns-in-32
returns-in-32 c = call_arm _ _ _ _ _ _ _ _ _ c.opcode-opcode.ensures c.in-32.is _ c.call.ensures

pub returns-in-33 : goal.returns-in-33
returns-in-33 c = return_arm _ _ _ _ _ _ _ _ _ c.opcode-opcode.ensures c.in-33.is _ c.return_to.ensures

pub returns-else-core-ne0 : goal.returns-else-core-ne0
returns-else-core-ne0 c = ldbr_arm _ _ _ _ _ _ _ _ c.opcode-opcode.ensures c.in-40.is c.if-core-ne0.false c.load_dbr.ensures

pub returns-else-ipr-ne0 : goal.returns-else-ipr-ne0
returns-else-ipr-ne0 c = hlt_arm _ _ _ _ _ _ _ _ c.opcode-opcode.ensures c.in-41.is c.if-ipr-ne0.false c.halt.ensures

pub returns-else-ipr-ne0-2 : goal.returns-else-ipr-ne0-2
returns-else-ipr-ne0-2 c = rcu_arm _ _ _ _ _ _ _ _ c.opcode-opcode.ensures c.in-42.is c.if-ipr-ne0-2.false _ c.stopped.ensures refl

pub returns-in_default : goal.returns-in_default
returns-in_default c = unknown_arm _ _ _ _ _ _ _ _ c.opcode-opcode.ensures c.in_default.in_default-own.rest _ c.faulted_by-in_default.ensures refl
