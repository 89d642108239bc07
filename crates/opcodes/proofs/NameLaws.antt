-- Each opcode's number is its entry's in the model's table, and no other number has an entry. Assumes nothing.
use Rattle.std.proofs.Common.{◌≡◌, ℕ, refl}
use Rattle.std.proofs.Math.Option.{none, some}
use Rattle.model.specs.Opcodes.{decoded}
use Rattle.model.proofs.Computing.{by_computation}
use Rattle.model.proofs.TableLaws.{outside_not_decoded}
use Rattle.opcodes.specs.declared.opcode.Opcode.{Opcode}
use Rattle.opcodes.specs.declared.opcode.Opcode.TheVariants.{Lda, Sta, Ada, Sba, Ana, Ora, Xra, Cnt, Aos, Ldi, Eap, Spp, Tra, Tze, Tmi, Call, Return, Ldbr, Hlt, Rcu}
use Rattle.opcodes.specs.Name.{number_of, entry_named}

pub entry_same : (o : Opcode) → decoded (number_of o) ≡ some (entry_named o)
unfolding entry_named by_computation
entry_same Lda = refl
entry_same Sta = refl
entry_same Ada = refl
entry_same Sba = refl
entry_same Ana = refl
entry_same Ora = refl
entry_same Xra = refl
entry_same Cnt = refl
entry_same Aos = refl
entry_same Ldi = refl
entry_same Eap = refl
entry_same Spp = refl
entry_same Tra = refl
entry_same Tze = refl
entry_same Tmi = refl
entry_same Call = refl
entry_same Return = refl
entry_same Ldbr = refl
entry_same Hlt = refl
entry_same Rcu = refl

pub unnamed : (n : ℕ) → (n ≡ 1 → ⊥) → (n ≡ 2 → ⊥) → (n ≡ 3 → ⊥) → (n ≡ 4 → ⊥) → (n ≡ 5 → ⊥) → (n ≡ 6 → ⊥) → (n ≡ 7 → ⊥) → (n ≡ 8 → ⊥) → (n ≡ 9 → ⊥) → (n ≡ 10 → ⊥) → (n ≡ 16 → ⊥) → (n ≡ 17 → ⊥) → (n ≡ 24 → ⊥) → (n ≡ 25 → ⊥) → (n ≡ 26 → ⊥) → (n ≡ 32 → ⊥) → (n ≡ 33 → ⊥) → (n ≡ 40 → ⊥) → (n ≡ 41 → ⊥) → (n ≡ 42 → ⊥) → decoded n ≡ none
unfolding by_computation
unnamed n a b c d e f g h i j k l m o p q r s t u =
    outside_not_decoded n
    (record {
      lda = a;
      sta = b;
      ada = c;
      sba = d;
      ana = e;
      ora = f;
      xra = g;
      cnt = h;
      aos = i;
      ldi = j;
      eap = k;
      spp = l;
      tra = m;
      tze = o;
      tmi = p;
      call = q;
      return = r;
      ldbr = s;
      hlt = t;
      rcu = u;
    })
