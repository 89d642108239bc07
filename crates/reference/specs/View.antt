-- The model's values as document 03's, and 03's machines as the model's. Assumes nothing: these are definitions.
use Rattle.std.specs.Prelude.{Bool, true, false, List, [], ◌∷◌, ◌++◌, map, ℕ}
use Rattle.model.specs.Words as Words
use Rattle.model.specs.Registers as Registers
use Rattle.model.specs.Program.{Outcome, faults, completes, halts}
use Rattle.model.specs.Step.{pointer_words}
use Rattle.model.specs.Run as Run
use Rattle.model.specs.Answers.{Numbers, reply_numbers}
use Rattle.model.specs.Image as Image
use Rattle.reference.specs.Machine as Machine03
use Rattle.reference.specs.Step as Step03
use Rattle.reference.specs.Run as Run03
use Rattle.reference.specs.Entry as Entry03

-- THE MODEL'S AS 03'S
abbrev pub place : Words.Pointer → Machine03.Place
place p = record { ring = p.ring; seg = p.segment; at = p.word }

abbrev pub regs : Registers.Registers → Machine03.Regs
regs r = record { a = r.a; base = r.dbr.address; bound = r.dbr.length; ipr = place r.ipr; prs = map place r.prs }

abbrev pub machine : Registers.Machine → Step03.Machine
machine m = record { regs = regs m.registers; mem = m.memory }

abbrev pub descriptor : Words.Descriptor → Machine03.Descriptor
descriptor d =
    record {
      start = d.address;
      long = d.length;
      r1 = d.r1;
      r2 = d.r2;
      r3 = d.r3;
      reads = d.read;
      writes = d.write;
      executes = d.execute;
      valid = d.valid;
      gate = d.gate;
    }

-- 03 tells a halt from another completed step by a test of its own
unfoldable pub outcome : Outcome → Step03.Stepped
outcome (faults n t) = Step03.fault n (place t)
outcome (completes m) = Step03.went (machine m)
outcome (halts m) = Step03.went (machine m)

unfoldable pub is_halt : Outcome → Bool
is_halt (faults n t) = false
is_halt (completes m) = false
is_halt (halts m) = true

abbrev pub numbers : Numbers → Run03.Reply
numbers n = record { kind = n.kind; number = n.number; count = n.count; where_at = place n.pointer }

abbrev pub reply : Run.Reply → Run03.Reply
reply p = numbers (reply_numbers p)

abbrev pub ran : Run.Ran → Run03.Ran
ran x = record { reply = reply x.reply; machine = machine x.machine }

-- of a stored image: 03's has no delivery, and none is loaded (Image-off)
unfoldable pub image : Image.Image → Run03.Image
image (Image.refused_image n) = Run03.bad_image n
image (Image.loaded v m b) =
    record { refusal = 0; has_me = true; has_st = true; regs = regs m.registers; mem = m.memory; budget = b }

abbrev pub answer : Run.Reply → Entry03.Answer
answer p =
    let n = reply_numbers p in
    record { kind = n.kind; number = n.number; count = n.count; ring = n.pointer.ring; seg = n.pointer.segment; at = n.pointer.word }

-- 03'S AS THE MODEL'S
abbrev pub pointer : Machine03.Place → Words.Pointer
pointer p = record { ring = p.ring; segment = p.seg; word = p.at }

abbrev pub registers : Machine03.Regs → Registers.Registers
registers r = record { a = r.a; dbr = record { address = r.base; length = r.bound }; ipr = pointer r.ipr; prs = map pointer r.prs }

abbrev pub model_machine : Step03.Machine → Registers.Machine
model_machine m = record { registers = registers m.regs; memory = m.mem }

-- 03's record of 30 words, with the three of a delivery that is off
abbrev pub lent : List ℕ → List ℕ
lent ws = ws ++ (0 ∷ 0 ∷ 0 ∷ [])

-- what 03's machine doesn't count: how many pointer words a step reads
abbrev pub pointers : Step03.Machine → ℕ
pointers m = pointer_words (model_machine m)
