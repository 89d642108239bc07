-- An image's needs: one law for each answer. Assumes nothing.
use mathlib.Core.Path.{◌≡◌, refl, sym, ◌∙◌, ap, ap₂}
use mathlib.Core.Bool.{true, false≢true}
use mathlib.Core.List.{List, []}
use Prim.Native.Nat.{ℕ, ◌+◌, ◌-◌, ◌*◌, ◌/◌, ◌<◌}
use native.Mathlib.Omega.{arith}
use lib.ListN.{length, replicate, length-replicate}
use borrow.Author.Tests.{lt-leb}
use Rattle.model.specs.Questions.{start_questions}
use Rattle.model.specs.Image as Image
use Rattle.model.specs.Image.{checked, image_after, nothing_loaded, sizing}
use Rattle.model.specs.Needs as Model
use Rattle.model.specs.Needs.{needs_refused, needs_of, word_count, needs_on, image_needs}
use Rattle.model.specs.Convert.{records}
use Rattle.formats.proofs.ImageLaws.{checked_refused, checked_passed}
use Rattle.formats.proofs.NeedsLaws.{needs_by_length}
use Rattle.host.specs.declared.record.Registers.{Registers}
use Rattle.host.specs.Record.{machine_of, delivery_of, AnswersAny}
use Rattle.loading.specs.declared.Loading.{Loading}
use Rattle.loading.specs.View.{keeps_words, memory_in, as_loading, StartsSizing}
use Rattle.loading.specs.Record.{outcome_image}
use Rattle.std.specs.Prelude.{Result, Ok, Err}
use Rattle.questions.specs.Numbers.{number_by, start_number}
use Rattle.questions.specs.declared.start.StartError.{StartError}
use Rattle.fields.specs.declared.rules.Rules.TheVariants.{Today}
use Rattle.loading.specs.Numbers.{load_number}
use Rattle.loading.specs.declared.error.LoadError.{LoadError}
use Rattle.loading.specs.declared.Start.{Start}
use Rattle.image.specs.declared.load.LoadOutcome.{LoadOutcome}
use Rattle.image.specs.declared.load.LoadOutcome.TheVariants.{More, Ready}
use Rattle.image.specs.Load.{as_outcome, LoadedAs}
use Rattle.image.proofs.LoadLaws.{may_size, whole_loaded, loaded_delivery, loaded_machine}

-- THE WD RECORDS of so many bytes
pub none_in : (n : ℕ) → n < 78 → 0 ≡ (n - 78) / 14
none_in n h = omega arith

-- 1 TO 4 of a memory of so many words
start_nonzero : (error : StartError) → start_number error ≡ 0 → ⊥
start_nonzero StartError.MemoryTooLarge e = omega arith
start_nonzero StartError.OutOfRange e = omega arith
start_nonzero StartError.RingsBelow e = omega arith
start_nonzero StartError.BaseOutsideMemory e = omega arith

module _ {A : Type 0} (r : Registers) (words b k : ℕ) (x : Result A StartError) (asked : AnswersAny x words (λ m. start_questions (delivery_of r) (machine_of r m))) where
  of_zeros : number_by start_number x ≡ start_questions (delivery_of r) (machine_of r (replicate words 0))
  of_zeros = asked (replicate words 0) (length-replicate {A = ℕ} words 0)

  pub refused_by_start : (error : StartError) → x ≡ Err error →
      Model.needs_refused (start_number error) ≡ needs_on (checked (delivery_of r) (machine_of r (replicate words 0)) b) ((k - 78) / 14)
  unfolding needs_on
  refused_by_start error e =
      sym (ap (λ i. needs_on i ((k - 78) / 14)) (checked_refused (delivery_of r) (machine_of r (replicate words 0)) b (start_number error) (rw e at of_zeros) (start_nonzero error)))

  pub figures : (a : A) → x ≡ Ok a → (w : ℕ) → w ≡ (k - 78) / 14 →
      record { number = 0; memory = words; records = w; budget = b; lines = b + 1; pointers = 64 * b }
      ≡ needs_on (checked (delivery_of r) (machine_of r (replicate words 0)) b) ((k - 78) / 14)
  unfolding needs_on needs_of
  figures a z w e =
      ap₂ (λ size count. record { number = 0; memory = size; records = count; budget = b; lines = b + 1; pointers = 64 * b }) (sym (length-replicate {A = ℕ} words 0)) e
      ∙ sym (ap (λ i. needs_on i ((k - 78) / 14)) (checked_passed (delivery_of r) (machine_of r (replicate words 0)) b 0 (rw z at of_zeros) refl))

pub ruleset answers = (none_in, refused_by_start, figures)

-- A WHOLE IMAGE
module _ (l : Loading) (v bs : List ℕ) (x : Result LoadOutcome LoadError) (j : Loading) (k : List ℕ) (s : StartsSizing Today l) (z : v ≡ replicate 128 0) (w : LoadedAs l v bs true x j k) where
  starts_empty : as_loading l v ≡ nothing_loaded sizing
  unfolding StartsSizing
  starts_empty = (s refl v z).1

  whole : image_after (nothing_loaded sizing) bs ≡ outcome_image (as_outcome x) (as_loading j k) bs []
  whole = whole_loaded sizing (as_loading l v) bs (as_outcome x) (as_loading j k) starts_empty w.goes

  without_memory : (n : ℕ) → memory_in n k ≡ replicate n 0
  unfolding memory_in keeps_words
  without_memory n = rw (lt-leb 8320 (length k) (let a = w.size_same in let b = ap length z in let c = length-replicate {A = ℕ} 128 0 in omega arith)) refl

  pub image_refused : (error : LoadError) → x ≡ Err error → Model.needs_refused (load_number error) ≡ image_needs bs
  unfolding image_needs outcome_image needs_on
  image_refused error o =
      sym (ap (λ i. needs_on i (word_count (records sizing bs))) (whole ∙ ap (λ a. outcome_image (as_outcome a) (as_loading j k) bs []) o))

  -- a whole image leaves no bytes over
  pub no_more : (n : ℕ) → x ≡ Ok (More n) → (y : Model.Needs) → y ≡ image_needs bs
  no_more n o y = absurd (false≢true (sym (rw o at w).outcome_within.0))

  pub image_ready : (start : Start) → x ≡ Ok (Ready start) → (y : Model.Needs) →
      y ≡ needs_on (checked (delivery_of start.registers) (machine_of start.registers (replicate start.words 0)) start.budget) ((length bs - 78) / 14) → y ≡ image_needs bs
  unfolding outcome_image
  image_ready start o y e =
      let given = (rw o at w).outcome_within.1 in
      let gave : Image.machine_of (as_loading j k) ≡ machine_of start.registers (replicate start.words 0) =
      loaded_machine j k start given ∙ ap (machine_of start.registers) (without_memory start.words) in
      e ∙ sym (needs_by_length bs
      ∙ ap (λ i. needs_on i ((length bs - 78) / 14))
      (whole ∙ ap (λ a. outcome_image (as_outcome a) (as_loading j k) bs []) o ∙ ap₂ (λ d m. checked d m start.budget) (loaded_delivery j k start given) gave))

pub ruleset whole_image = (may_size, image_refused, no_more, image_ready)
