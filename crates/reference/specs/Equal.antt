-- That the model without delivery (02, L4) equals document 03 on every input: each statement is a type, proved in proofs/. Assumes nothing: these are definitions.
use Rattle.std.specs.Prelude.{◌≡◌, ◌&&◌, List, ℕ, ◌≤◌, ltb, length}
use Rattle.model.specs.Registers.{Delivery, no_delivery, Machine}
use Rattle.model.specs.Questions.{start_questions}
use Rattle.model.specs.Step.{step}
use Rattle.model.specs.Run.{run, stretch}
use Rattle.model.specs.Reach.{is_descriptor_word, observable, writable}
use Rattle.model.specs.Image.{stored, loaded, image, stored_image}
use Rattle.model.specs.Listing.{listing, image_text}
use Rattle.model.specs.Convert.{records}
use Rattle.model.specs.Converted.{OneAnAddress, with_todays_start}
use Rattle.model.specs.Bench.{bench}
use Rattle.model.specs.Lent.{lent_run}
use Rattle.reference.specs.Machine as Machine03
use Rattle.reference.specs.Step as Step03
use Rattle.reference.specs.Run as Run03
use Rattle.reference.specs.Promise as Promise03
use Rattle.reference.specs.Entry as Entry03
use Rattle.reference.specs.View as View

-- every machine of 03 is the view of a machine of the model, so a statement on all of the model's machines is one on all of 03's
abbrev pub ViewsCover : Type 0
ViewsCover = (m : Step03.Machine) → View.machine (View.model_machine m) ≡ m

-- and of no other one
abbrev pub ViewsOneToOne : Type 0
ViewsOneToOne = (m : Machine) → View.model_machine (View.machine m) ≡ m

-- questions 1 to 4 answer alike
abbrev pub StartEqual : Type 0
StartEqual = (m : Machine) → start_questions no_delivery m ≡ Machine03.start_refusal (View.regs m.registers) m.memory

-- a step has the same fault, or leaves the same machine
abbrev pub StepEqual : Type 0
StepEqual = (m : Machine) → View.outcome (step m) ≡ Step03.step (View.machine m)

-- a step halts in both or in neither
abbrev pub HaltEqual : Type 0
HaltEqual = (m : Machine) → View.is_halt (step m) ≡ Step03.is_halt (View.machine m)

-- a run replies alike and leaves the same machine
abbrev pub RunEqual : Type 0
RunEqual = (b : ℕ) (m : Machine) → View.ran (run no_delivery b m) ≡ Run03.run b (View.machine m)

-- a stretch is as long
abbrev pub StretchEqual : Type 0
StretchEqual = (n b : ℕ) (m : Machine) → stretch no_delivery n b m ≡ Promise03.stretch n b (View.machine m)

-- the same words are observable, writable and descriptor words; 03 counts words past the end of memory among the last
abbrev pub ReachEqual : Type 0
ReachEqual =
    (n : ℕ) (m : Machine) (x : ℕ) →
    (observable n m x ≡ Promise03.reachable n (View.regs m.registers) m.memory x)
    × (writable n m x ≡ Promise03.writable n (View.regs m.registers) m.memory x)
    × (is_descriptor_word m x ≡ (ltb x (length m.memory) && Promise03.is_descriptor_word (View.regs m.registers) x))

-- a stored image is refused with the same number, or loads the same machine and budget; what 51 changes for today's is said in the model (Converted)
abbrev pub ImageEqual : Type 0
ImageEqual = (bs : List ℕ) → View.image (stored_image bs) ≡ Run03.image bs

-- and delivery is off in it
abbrev pub ImageOff : Type 0
ImageOff = (bs : List ℕ) (v : Delivery) (m : Machine) (b : ℕ) → stored_image bs ≡ loaded v m b → v ≡ no_delivery

-- a run that 1 to 4 let start has the same text, once 03's lines have the model's counts of pointer words (02, L2); of a refused one 03 prints a fault line, where 01 says `refused NUMBER`
abbrev pub ListingEqual : Type 0
ListingEqual = (b : ℕ) (m : Machine) → start_questions no_delivery m ≡ 0 → listing no_delivery b m ≡ Run03.listing View.pointers b (View.machine m)

-- an image of 03 that loads with today's ST, five zero bytes longer, has the same text
abbrev pub TextEqual : Type 0
TextEqual =
    (bs : List ℕ) (v : Delivery) (m : Machine) (b : ℕ) → image (with_todays_start bs) ≡ loaded v m b →
    image_text (with_todays_start bs) ≡ Entry03.listing_of View.pointers bs

-- the bench's call with it answers and leaves what 03's contract says, where no word is written twice
abbrev pub BenchEqual : Type 0
BenchEqual =
    (bs out : List ℕ) → OneAnAddress (records stored bs) → let x = bench (with_todays_start bs) out in
    Entry03.BenchSays (Entry03.bench_refusal bs (length out)) (Entry03.listing_of View.pointers bs) x.answer out x.buffer

-- a run over lent words, with delivery's three as 0, answers and leaves what 03's contract says, and the three stay; of a longer memory 01 asks 1 before the record's length, 03 after it
abbrev pub LentEqual : Type 0
LentEqual =
    (b : ℕ) (ws m : List ℕ) → length m ≤ 16777216 →
    let x = lent_run b (View.lent ws) m in
    (ws_now : List ℕ) × (x.record_words ≡ View.lent ws_now) × Entry03.RunSays b ws m (View.answer x.reply) ws_now x.memory
