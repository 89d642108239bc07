-- What each opcode makes of registers and words that fit fits again: a line an opcode. Assumes nothing.
use Prim.Native.Nat.{ℕ, zero, suc, ◌+◌, ◌*◌, ◌-◌, ◌^◌, ◌<◌}
use native.Mathlib.Omega.{arith}
use Rattle.model.specs.Words.{Pointer, pointer_word, Instruction, instruction_in}
use Rattle.model.specs.Registers.{Registers, pr}
use Rattle.model.specs.Opcodes.{Access, sets, reads, writes, updates, transfers, calls, returns, loads_dbr, ends_run, restores, sum, difference, count_of_ones, LDA, STA, ADA, SBA, ANA, ORA, XRA, CNT, AOS, LDI, EAP, SPP, TRA, TZE, TMI, CALL, RETURN, LDBR, HLT, RCU}
use Rattle.model.proofs.WordLaws.{field_within_width, Within, pointer_word_within, bitwise_within, ones_at_most}
use Rattle.model.proofs.TableLaws.{Each}
use Rattle.model.proofs.FitLaws.{Fit, Formed, pr_within, fit_with_a, fit_with_pr}

-- THE TABLE: what an access makes of registers and words that fit fits again
module _ (W C : ℕ → Type 0) where
  unfoldable pub KeepsFit : Access → Type 0
  KeepsFit (sets f) = (n w : ℕ) (t : Pointer) (r : Registers) → Fit W C n r → Formed r t → Fit W C n (f (instruction_in w) t r)
  KeepsFit (reads f) = (a w : ℕ) → W w → W (f a w)
  KeepsFit (writes f) = (n : ℕ) (i : Instruction) (r : Registers) → Fit W C n r → W (f i r)
  KeepsFit (updates f) = (w : ℕ) → W (f w)
  KeepsFit (transfers f) = Unit {0}
  KeepsFit calls = Unit {0}
  KeepsFit returns = Unit {0}
  KeepsFit loads_dbr = Unit {0}
  KeepsFit ends_run = Unit {0}
  KeepsFit restores = Unit {0}

sum_within : (a w : ℕ) → sum a w < 2 ^ 64
unfolding sum
sum_within a w = omega arith

difference_within : (a w : ℕ) → difference a w < 2 ^ 64
unfolding difference
difference_within a w = omega arith

count_within : (w : ℕ) → count_of_ones 64 w < 2 ^ 64
count_within w = let x = ones_at_most 64 w in omega arith

literal_within : (w : ℕ) → (instruction_in w).lit < 2 ^ 64
unfolding instruction_in
literal_within w = let x = field_within_width 32 32 w in omega arith

stored_pointer_within : (p : Pointer) → Within p → pointer_word p < 2 ^ 64
stored_pointer_within p h = let x = pointer_word_within p h in omega arith

digit_product : (x y : ℕ) → x < 2 → y < 2 → x * y < 2
digit_product zero y h g = omega arith
digit_product (suc zero) y h g = omega arith
digit_product (suc (suc x)) y h g = absurd (omega arith)

digit_sum : (x y : ℕ) → x < 2 → y < 2 → x + y - x * y < 2
digit_sum zero y h g = omega arith
digit_sum (suc zero) y h g = omega arith
digit_sum (suc (suc x)) y h g = absurd (omega arith)

-- W is what is known of words: it holds of all below 2^64
module _ (W C : ℕ → Type 0) (word : (v : ℕ) → v < 2 ^ 64 → W v) where
  pub table_keeps_fit : Each (λ o. KeepsFit W C o.access)
  unfolding KeepsFit LDA STA ADA SBA ANA ORA XRA CNT AOS LDI EAP SPP TRA TZE TMI CALL RETURN LDBR HLT RCU
  table_keeps_fit =
      record {
        lda = λ a w h. h;
        sta = λ n i r h. h.a_has;
        ada = λ a w h. word _ (sum_within a w);
        sba = λ a w h. word _ (difference_within a w);
        ana = λ a w h. word _ (bitwise_within _ digit_product 64 a w);
        ora = λ a w h. word _ (bitwise_within _ digit_sum 64 a w);
        xra = λ a w h. word _ (bitwise_within _ (λ x y k l. omega arith) 64 a w);
        cnt = λ a w h. word _ (count_within w);
        aos = λ w. word _ (sum_within w 1);
        ldi = λ n w t r h g. fit_with_a h (instruction_in w).lit (word _ (literal_within w));
        eap = λ n w t r h g. fit_with_pr h (instruction_in w).reg t g;
        spp = λ n i r h. word _ (stored_pointer_within (pr r i.reg) (pr_within h i.reg));
        tra = tt;
        tze = tt;
        tmi = tt;
        call = tt;
        return = tt;
        ldbr = tt;
        hlt = tt;
        rcu = tt;
      }
