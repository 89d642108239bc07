-- A rule of every entry of the opcode table is a rule of every opcode that decodes. Assumes nothing.
use mathlib.Core.Path.{◌≡◌, refl, sym, subst}
use mathlib.Core.Bool.{Bool, true, false, cond}
use mathlib.Core.List.{List, [], ◌∷◌}
use mathlib.Core.Option.{Option, none, some}
use Prim.Native.Nat.{ℕ}
use lib.Dec.{eqb}
use borrow.Author.Tests.{eqb-true, eqb-false, ne_eqb}
use Rattle.model.specs.Opcodes.{Opcode, LDA, STA, ADA, SBA, ANA, ORA, XRA, CNT, AOS, LDI, EAP, SPP, TRA, TZE, TMI, CALL, RETURN, LDBR, HLT, RCU, opcodes, entry, decoded}

-- a rule, one line an opcode
pub record Each (P : Opcode → Type 0) : Type 0 where
  pub lda : P LDA
  pub sta : P STA
  pub ada : P ADA
  pub sba : P SBA
  pub ana : P ANA
  pub ora : P ORA
  pub xra : P XRA
  pub cnt : P CNT
  pub aos : P AOS
  pub ldi : P LDI
  pub eap : P EAP
  pub spp : P SPP
  pub tra : P TRA
  pub tze : P TZE
  pub tmi : P TMI
  pub call : P CALL
  pub return : P RETURN
  pub ldbr : P LDBR
  pub hlt : P HLT
  pub rcu : P RCU

-- of an opcode, where there is one
abbrev pub IfThere : (Opcode → Type 0) → Option Opcode → Type 0
IfThere P none = Unit {0}
IfThere P (some o) = P o

-- OF EVERY OPCODE THAT DECODES
module _ (P : Opcode → Type 0) (n : ℕ) where
  on_entry : (o : Opcode) (os : List Opcode) → P o → IfThere P (entry n os) → IfThere P (entry n (o ∷ os))
  unfolding entry
  on_entry o os h k = by_test (eqb n o.number)
    where
      by_test : (b : Bool) → IfThere P (cond b (some o) (entry n os))
      by_test true = h
      by_test false = k

  no_entry : IfThere P (entry n [])
  unfolding entry
  no_entry = tt

  pub decoded_has : Each P → IfThere P (decoded n)
  unfolding decoded opcodes
  decoded_has e =
      on_entry LDA _ e.lda (on_entry STA _ e.sta (on_entry ADA _ e.ada (on_entry SBA _ e.sba (on_entry ANA _ e.ana
      (on_entry ORA _ e.ora (on_entry XRA _ e.xra (on_entry CNT _ e.cnt (on_entry AOS _ e.aos (on_entry LDI _ e.ldi
      (on_entry EAP _ e.eap (on_entry SPP _ e.spp (on_entry TRA _ e.tra (on_entry TZE _ e.tze (on_entry TMI _ e.tmi
      (on_entry CALL _ e.call (on_entry RETURN _ e.return (on_entry LDBR _ e.ldbr (on_entry HLT _ e.hlt (on_entry RCU _ e.rcu no_entry)))))))))))))))))))

-- and it has the number that decodes to it
entry_has_number : (n : ℕ) (os : List Opcode) → IfThere (λ o. n ≡ o.number) (entry n os)
unfolding entry
entry_has_number n [] = tt
entry_has_number n (o ∷ os) = by_test (eqb n o.number) refl (entry_has_number n os)
  where
    by_test : (b : Bool) → eqb n o.number ≡ b → IfThere (λ x. n ≡ x.number) (entry n os) → IfThere (λ x. n ≡ x.number) (cond b (some o) (entry n os))
    by_test true e h = eqb-true n o.number e
    by_test false e h = h

pub decoded_has_number : (n : ℕ) → IfThere (λ o. n ≡ o.number) (decoded n)
unfolding decoded
decoded_has_number n = entry_has_number n opcodes

-- OF EVERY NUMBER: one that the table has, or one that it has not
abbrev pub Outside : (number : ℕ) → Type 0
Outside n = Each (λ o. n ≡ o.number → ⊥)

pub outside_not_decoded : (n : ℕ) → Outside n → decoded n ≡ none
unfolding decoded opcodes entry LDA STA ADA SBA ANA ORA XRA CNT AOS LDI EAP SPP TRA TZE TMI CALL RETURN LDBR HLT RCU
outside_not_decoded n out =
    rw (
      ne_eqb n 1 out.lda,
      ne_eqb n 2 out.sta,
      ne_eqb n 3 out.ada,
      ne_eqb n 4 out.sba,
      ne_eqb n 5 out.ana,
      ne_eqb n 6 out.ora,
      ne_eqb n 7 out.xra,
      ne_eqb n 8 out.cnt,
      ne_eqb n 9 out.aos,
      ne_eqb n 10 out.ldi,
      ne_eqb n 16 out.eap,
      ne_eqb n 17 out.spp,
      ne_eqb n 24 out.tra,
      ne_eqb n 25 out.tze,
      ne_eqb n 26 out.tmi,
      ne_eqb n 32 out.call,
      ne_eqb n 33 out.return,
      ne_eqb n 40 out.ldbr,
      ne_eqb n 41 out.hlt,
      ne_eqb n 42 out.rcu,
    ) refl

on_number : (P : ℕ → Type 0) (n : ℕ) (o : Opcode) → P o.number → ((n ≡ o.number → ⊥) → P n) → P n
on_number P n o h other = by_test (eqb n o.number) refl
  where
    by_test : (b : Bool) → eqb n o.number ≡ b → P n
    by_test true e = subst P (sym (eqb-true n o.number e)) h
    by_test false e = other (eqb-false n o.number e)

pub each_number : (P : ℕ → Type 0) → Each (λ o. P o.number) → ((n : ℕ) → Outside n → P n) → (n : ℕ) → P n
each_number P e other n =
    on_number P n LDA e.lda λ not_lda.
    on_number P n STA e.sta λ not_sta.
    on_number P n ADA e.ada λ not_ada.
    on_number P n SBA e.sba λ not_sba.
    on_number P n ANA e.ana λ not_ana.
    on_number P n ORA e.ora λ not_ora.
    on_number P n XRA e.xra λ not_xra.
    on_number P n CNT e.cnt λ not_cnt.
    on_number P n AOS e.aos λ not_aos.
    on_number P n LDI e.ldi λ not_ldi.
    on_number P n EAP e.eap λ not_eap.
    on_number P n SPP e.spp λ not_spp.
    on_number P n TRA e.tra λ not_tra.
    on_number P n TZE e.tze λ not_tze.
    on_number P n TMI e.tmi λ not_tmi.
    on_number P n CALL e.call λ not_call.
    on_number P n RETURN e.return λ not_return.
    on_number P n LDBR e.ldbr λ not_ldbr.
    on_number P n HLT e.hlt λ not_hlt.
    on_number P n RCU e.rcu λ not_rcu.
    other n record {
      lda = not_lda;
      sta = not_sta;
      ada = not_ada;
      sba = not_sba;
      ana = not_ana;
      ora = not_ora;
      xra = not_xra;
      cnt = not_cnt;
      aos = not_aos;
      ldi = not_ldi;
      eap = not_eap;
      spp = not_spp;
      tra = not_tra;
      tze = not_tze;
      tmi = not_tmi;
      call = not_call;
      return = not_return;
      ldbr = not_ldbr;
      hlt = not_hlt;
      rcu = not_rcu;
    }
