-- What the code's opcodes stand for: the entries of the model's table. Assumes nothing: these are definitions.
use Rattle.std.specs.Prelude.{◌≡◌, ℕ, Result, MatchResult}
use Rattle.std.proofs.Math.Option.{none}
use Rattle.model.specs.Opcodes as Model
use Rattle.model.specs.Opcodes.{decoded}
use Rattle.opcodes.specs.declared.opcode.Opcode.{Opcode}
use Rattle.opcodes.specs.declared.opcode.Opcode.TheVariants.{Lda, Sta, Ada, Sba, Ana, Ora, Xra, Cnt, Aos, Ldi, Eap, Spp, Tra, Tze, Tmi, Call, Return, Ldbr, Hlt, Rcu}
use Rattle.opcodes.specs.declared.opcode.UnknownOpcode.{UnknownOpcode}

abbrev pub number_of : Opcode → ℕ
number_of Lda = 1
number_of Sta = 2
number_of Ada = 3
number_of Sba = 4
number_of Ana = 5
number_of Ora = 6
number_of Xra = 7
number_of Cnt = 8
number_of Aos = 9
number_of Ldi = 10
number_of Eap = 16
number_of Spp = 17
number_of Tra = 24
number_of Tze = 25
number_of Tmi = 26
number_of Call = 32
number_of Return = 33
number_of Ldbr = 40
number_of Hlt = 41
number_of Rcu = 42

-- its entry in the model's table
unfoldable pub entry_named : Opcode → Model.Opcode
entry_named Lda = Model.LDA
entry_named Sta = Model.STA
entry_named Ada = Model.ADA
entry_named Sba = Model.SBA
entry_named Ana = Model.ANA
entry_named Ora = Model.ORA
entry_named Xra = Model.XRA
entry_named Cnt = Model.CNT
entry_named Aos = Model.AOS
entry_named Ldi = Model.LDI
entry_named Eap = Model.EAP
entry_named Spp = Model.SPP
entry_named Tra = Model.TRA
entry_named Tze = Model.TZE
entry_named Tmi = Model.TMI
entry_named Call = Model.CALL
entry_named Return = Model.RETURN
entry_named Ldbr = Model.LDBR
entry_named Hlt = Model.HLT
entry_named Rcu = Model.RCU

-- it has that number, or the table has no entry of the number
abbrev pub Names : (number : ℕ) → Result Opcode UnknownOpcode → Type 0
Names n r = MatchResult r (λ o. number_of o ≡ n) (λ e. decoded n ≡ none)
