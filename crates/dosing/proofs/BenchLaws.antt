-- The bench's call: one law for each answer. Assumes nothing.
use mathlib.Core.Path.{◌≡◌, refl, sym, ◌∙◌, ap, ap₂, subst}
use mathlib.Core.Bool.{true, false, false≢true}
use mathlib.Core.List.{List, []}
use Prim.Native.Nat.{ℕ, ◌+◌, ◌*◌, ◌≤◌, ◌<◌}
use native.Mathlib.Omega.{arith}
use lib.ListN.{length, take, replicate, length-replicate}
use lib.Seq.{length-take-le}
use borrow.Author.Tests.{le-leb, lt-leb}
use Rattle.model.specs.Registers.{Delivery, Machine}
use Rattle.model.specs.Questions.{start_questions}
use Rattle.model.specs.Image as Image
use Rattle.model.specs.Image.{image, loaded, checked}
use Rattle.model.specs.Listing.{listing}
use Rattle.formats.proofs.ImageLaws.{checked_refused, checked_passed}
use Rattle.model.specs.Bench as Bench
use Rattle.model.specs.Bench.{call_refused, call_wrote, bench_on, bench}
use Rattle.state.specs.View.{as_machine}
use Rattle.host.specs.declared.record.Registers as Host
use Rattle.host.specs.Record.{registers_of, machine_of, delivery_of, Converted}
use Rattle.listing.specs.Lines.{WholeListing}
use Rattle.loading.specs.declared.Loading.{Loading}
use Rattle.std.specs.Prelude.{Result, Ok, Err}
use Rattle.state.specs.declared.Core.{Core}
use Rattle.questions.specs.Numbers.{number_by, start_number}
use Rattle.questions.specs.declared.start.StartError.{StartError}
use Rattle.fields.specs.declared.rules.Rules.TheVariants.{Today}
use Rattle.loading.specs.declared.error.LoadError.{LoadError}
use Rattle.loading.specs.declared.Start.{Start}
use Rattle.loading.specs.Record.{StartOf}
use Rattle.image.specs.declared.load.LoadOutcome.{LoadOutcome}
use Rattle.image.specs.declared.load.LoadOutcome.TheVariants.{More, Ready}
use Rattle.dosing.specs.Numbers.{bench_number}
use Rattle.dosing.specs.declared.error.BenchError.{BenchError}
use Rattle.loading.specs.View.{rules_of, as_loading, Starts}
use Rattle.loading.specs.Record.{outcome_image}
use Rattle.image.specs.Load.{as_outcome, LoadedAs}
use Rattle.image.proofs.LoadLaws.{image_loaded, may_load, words_within, loaded_delivery, loaded_full}
use Rattle.calls.specs.Call.{CalledAs}
use Rattle.calls.proofs.CallLaws.{refuses, wrote}

-- 1 TO 4
module _ (dv : Delivery) (b : ℕ) (t : List ℕ) (m : Machine) where
  on_refused : (n : ℕ) → n ≡ start_questions dv m → (n ≡ 0 → ⊥) → bench_on (checked dv m b) t ≡ call_refused n t
  unfolding bench_on
  on_refused n e h = ap (λ i. bench_on i t) (checked_refused dv m b n e h)

  on_passed : (n : ℕ) → n ≡ start_questions dv m → n ≡ 0 → bench_on (checked dv m b) t ≡ bench_on (loaded dv m b) t
  on_passed n e z = ap (λ i. bench_on i t) (checked_passed dv m b n e z)

  on_45 : length t < 64 * (b + 1) → bench_on (loaded dv m b) t ≡ call_refused 45 t
  unfolding bench_on
  on_45 h = rw (lt-leb (64 * (b + 1)) (length t) h) refl

  on_listed : 64 * (b + 1) ≤ length t → bench_on (loaded dv m b) t ≡ call_wrote (listing dv b m) t
  unfolding bench_on
  on_listed h = rw (le-leb (64 * (b + 1)) (length t) h) refl

start_nonzero : (error : StartError) → start_number error ≡ 0 → ⊥
start_nonzero StartError.MemoryTooLarge e = omega arith
start_nonzero StartError.OutOfRange e = omega arith
start_nonzero StartError.RingsBelow e = omega arith
start_nonzero StartError.BaseOutsideMemory e = omega arith

module _ {A : Type 0} (b : ℕ) (t : List ℕ) (g : Host.Registers) (v : List ℕ) (x : Result A StartError)
    (asked : number_by start_number x ≡ start_questions (delivery_of g) (machine_of g v)) where
  pub not_started : (error : StartError) → x ≡ Err error → CalledAs bench_number (bench_on (checked (delivery_of g) (machine_of g v) b) t) (Err (BenchError.Start error)) t
  not_started error q = refuses bench_number _ (BenchError.Start error) t (on_refused (delivery_of g) b t (machine_of g v) (start_number error) (rw q at asked) (start_nonzero error))

  module _ (a : A) (q : x ≡ Ok a) where
    passed : 0 ≡ start_questions (delivery_of g) (machine_of g v)
    passed = rw q at asked

    pub no_room : length t < 64 * (b + 1) → CalledAs bench_number (bench_on (checked (delivery_of g) (machine_of g v) b) t) (Err BenchError.TextTooShort) t
    no_room h = refuses bench_number _ BenchError.TextTooShort t (on_passed (delivery_of g) b t (machine_of g v) 0 passed refl ∙ on_45 (delivery_of g) b t (machine_of g v) h)

    module _ (c : Core) (w : Converted g c) where
      same : as_machine c g.prs v ≡ machine_of g v
      same = ap (λ r. record { registers = r; memory = v }) w.same

      pub may_list : start_questions (delivery_of g) (as_machine c g.prs v) ≡ 0
      may_list = ap (start_questions (delivery_of g)) same ∙ sym passed

      pub lists : (r : ℕ) (u : List ℕ) → WholeListing (delivery_of g) b (as_machine c g.prs v) t r u → 64 * (b + 1) ≤ length t → b < 4294967296 →
          CalledAs bench_number (bench_on (checked (delivery_of g) (machine_of g v) b) t) (Ok r) u
      lists r u l h s = wrote bench_number _ r (listing (delivery_of g) b (as_machine c g.prs v)) t u listed l.size (omega (arith, l.short)) l.text_same
        where
          listed : bench_on (checked (delivery_of g) (machine_of g v) b) t ≡ call_wrote (listing (delivery_of g) b (as_machine c g.prs v)) t
          listed =
              on_passed (delivery_of g) b t (machine_of g v) 0 passed refl ∙ on_listed (delivery_of g) b t (machine_of g v) h
              ∙ ap (λ (k : Machine). call_wrote (listing (delivery_of g) b k) t) (sym same)

pub ruleset answers = (not_started, no_room, may_list, lists)

-- A WHOLE IMAGE, loaded
-- once RN has come, ME and ST have
module _ (l : Loading) (v bs : List ℕ) (x : Result LoadOutcome LoadError) (j : Loading) (k : List ℕ) (z : v ≡ replicate 8320 0) (w : LoadedAs l v bs true x j k) (s : Start) (o : x ≡ Ok (Ready s)) where
  full : length k ≡ 8320
  full = w.size_same ∙ ap length z ∙ length-replicate {A = ℕ} 8320 0

  ready : StartOf j s
  ready = (rw o at w).outcome_within.1

  pub ready_words : s.words ≤ length k
  ready_words = words_within j k s ready w.within full

  pub ready_part : s.words ≡ length (take s.words k)
  ready_part = sym (length-take-le s.words k ready_words)

  ready_delivery : (as_loading j k).delivery ≡ delivery_of s.registers
  ready_delivery = loaded_delivery j k s ready

  ready_machine : Image.machine_of (as_loading j k) ≡ record { registers = registers_of s.registers; memory = take s.words k }
  ready_machine = loaded_full j k s ready full

module _ (l : Loading) (v bs t : List ℕ) (x : Result LoadOutcome LoadError) (j : Loading) (k : List ℕ) (s : Starts Today l) (z : v ≡ replicate 8320 0) (w : LoadedAs l v bs true x j k) where
  starts_empty : as_loading l v ≡ Image.nothing_loaded Image.today
  unfolding Starts rules_of
  starts_empty = (s v z).1

  whole : image bs ≡ outcome_image (as_outcome x) (as_loading j k) bs []
  whole = image_loaded (as_loading l v) bs (as_outcome x) (as_loading j k) starts_empty w.goes

  pub image_refused : (error : LoadError) → x ≡ Err error → CalledAs bench_number (bench bs t) (Err (BenchError.Load error)) t
  unfolding bench outcome_image bench_on
  image_refused error o =
      refuses bench_number _ (BenchError.Load error) t (ap (λ i. bench_on i t) (whole ∙ ap (λ o. outcome_image (as_outcome o) (as_loading j k) bs []) o))

  -- a whole image leaves no bytes over
  pub no_more : (n : ℕ) → x ≡ Ok (More n) → (y : Result ℕ BenchError) → CalledAs bench_number (bench bs t) y t
  no_more n o y = absurd (false≢true (sym (rw o at w).outcome_within.0))

  pub image_listed : (start : Start) → x ≡ Ok (Ready start) → (y : Result ℕ BenchError) (u : List ℕ) →
      CalledAs bench_number (bench_on (checked (delivery_of start.registers) (record { registers = registers_of start.registers; memory = take start.words k }) start.budget) t) y u →
      CalledAs bench_number (bench bs t) y u
  unfolding bench outcome_image
  image_listed start o y u =
      subst (λ (i : Image.Image). CalledAs bench_number (bench_on i t) y u)
      (sym (whole ∙ ap (λ o. outcome_image (as_outcome o) (as_loading j k) bs []) o ∙ ap₂ (λ d m. checked d m start.budget) (ready_delivery l v bs x j k z w start o) (ready_machine l v bs x j k z w start o)))

pub ruleset whole_image = (may_load, ready_words, ready_part, image_refused, no_more, image_listed)
