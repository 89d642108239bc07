-- What a text holds of a chunk of a listing, and what is still to come. Assumes nothing: these are definitions.
use Rattle.std.specs.Prelude.{◌≡◌, Bool, true, false, List, [], ◌∷◌, ◌++◌, ℕ, ◌+◌, ◌*◌, ◌≤◌, length, take, drop}
use Rattle.model.specs.Registers.{Delivery, Machine}
use Rattle.model.specs.Questions.{start_questions}
use Rattle.model.specs.Run.{ran, refused, halted, fault, Traced, run_from, trace_from, total_of}
use Rattle.model.specs.Listing.{step_lines, last_line}
use Rattle.words.specs.View.{as_pointer}
use Rattle.state.specs.declared.reply.Reply.{Reply}
use Rattle.state.specs.declared.reply.Reply.TheVariants.{Refused, Spent, Halted, Fault}
use Rattle.state.specs.Reply.{as_reply, ReplyWithin, completed}
use Rattle.chunks.specs.declared.Line.{Line}
use Rattle.chunks.specs.declared.Chunk.{Chunk}
use Rattle.text.specs.Text.{Put}

-- the listing from here on: so many steps are left, so many were completed before, and those read so many pointer words
unfoldable pub text_from : Delivery → (left count total : ℕ) → Machine → List ℕ
text_from v n c t m = step_lines c (trace_from v n m) ++ last_line (run_from v n c m).reply (t + total_of (trace_from v n m))

-- no step of a trace read more than a line has room for
unfoldable pub Few : List Traced → Type 0
Few [] = Unit {0}
Few (x ∷ xs) = (x.pointers ≤ 64) × Few xs

-- does a reply end the run, whatever steps were left?
abbrev pub ends_run : Reply → Bool
ends_run (Refused n) = true
ends_run (Spent c) = false
ends_run (Halted c) = true
ends_run (Fault n c t) = true

-- the last line of a run that ends with this reply, after so many steps before, and its total; none where it goes on
abbrev pub ending : (count total : ℕ) → Reply → List ℕ
ending c k (Refused n) = last_line (refused n) k
ending c k (Spent d) = []
ending c k (Halted d) = last_line (halted (c + d)) k
ending c k (Fault n d t) = last_line (fault n (c + d) (as_pointer t)) k

-- the run of some steps, and the lines of those that it completes after what stands before `at`
pub record ChunkWritten (v : Delivery) (m : Machine) (count steps at : ℕ) (text : List ℕ) (x : Chunk) (m_now : Machine) (text_now : List ℕ) : Type 0 where
  pub ran_same : run_from v steps 0 m ≡ ran (as_reply x.reply) m_now
  pub pointer_within : ReplyWithin x.reply
  pub passes : start_questions v m_now ≡ 0
  pub counted : completed x.reply ≤ steps
  pub put : Put (64 * steps) at (step_lines count (trace_from v steps m)) text text_now x.length
  pub total_same : x.total ≡ total_of (trace_from v steps m)
  pub total_within : x.total ≤ 64 * steps

-- the same with the last line, where the run ends with the chunk
pub record ChunkListed (v : Delivery) (m : Machine) (count total steps at : ℕ) (text : List ℕ) (x : Line) (m_now : Machine) (text_now : List ℕ) : Type 0 where
  pub goes_on : x.is_last ≡ false → (left : ℕ) →
      take at text ++ text_from v (steps + left) count total m ≡ take x.length text_now ++ text_from v left (count + steps) x.total m_now
  pub ends : x.is_last ≡ true → (left : ℕ) → take at text ++ text_from v (steps + left) count total m ≡ take x.length text_now
  pub rest_same : drop x.length text_now ≡ drop x.length text
  pub size_same : length text_now ≡ length text
  pub fits : x.length ≤ length text
  pub grows : at ≤ x.length
  pub near : x.length ≤ at + 64 * steps + 64
  pub short : x.is_last ≡ false → x.length ≤ at + 64 * steps
  pub total_within : total ≤ 64 * count → x.total ≤ 64 * (count + steps)
  pub passes : start_questions v m_now ≡ 0
