-- The lines of a chunk of steps: what a run of some steps adds to a text, and what is still to come after it. Assumes nothing.
use mathlib.Core.Path.{◌≡◌, refl, sym, ◌∙◌, ap, ap₂, subst}
use mathlib.Core.Bool.{Bool, true, false, false≢true, true≢false}
use mathlib.Core.List.{List, [], ◌∷◌, ◌++◌, append-nil, append_assoc, map-append}
use Prim.Native.Nat.{ℕ, zero, suc, ◌+◌, ◌*◌, ◌/◌, ◌^◌, ◌≤◌, ◌<◌}
use native.Mathlib.Nat.{add-zero, add_assoc}
use native.Mathlib.Numerals.{add-one}
use native.Mathlib.Omega.{arith}
use lib.ListN.{length, take, drop, get_or, length-append, length-map}
use lib.Seq.{take_at, take_all, drop_at, take-suc, length-take-le}
use Rattle.model.specs.Words.{Pointer}
use Rattle.model.specs.Registers.{Delivery, Machine}
use Rattle.model.specs.Answers.{Numbers, reply_numbers}
use Rattle.model.specs.Questions.{start_questions}
use Rattle.model.specs.Program.{Outcome, faults, completes, halts}
use Rattle.model.specs.Step.{pointer_words}
use Rattle.model.specs.Deliver.{step_with}
use Rattle.model.specs.Run as Run
use Rattle.model.specs.Run.{ran, run, run_from, Traced, traced, trace_on, trace_from, total_of, total, spent, halted, fault, refused}
use Rattle.model.specs.Listing.{step_line, step_lines, last_line}
use Rattle.model.proofs.RunLaws.{along_run, run_goes, run_faults, run_halts, run_completes, trace_faults, trace_halts, trace_completes, trace_goes}
use Rattle.model.proofs.TickLaws.{pointer_words_within}
use Rattle.model.proofs.CountedLaws.{total_within}
use Rattle.model.proofs.ListingLaws.{step_lines_append}
use Rattle.words.specs.View.{as_pointer, PointerWithin, DecodedPointer}
use Rattle.words.specs.declared.pointer.Pointer as Code
use Rattle.run.specs.Run.{step_in, noted_steps}
use Rattle.state.specs.View.{as_machine}
use Rattle.state.specs.declared.Core.{Core}
use Rattle.state.specs.declared.reply.Reply.{Reply}
use Rattle.state.specs.declared.reply.Reply.TheVariants.{Refused, Spent, Halted, Fault}
use Rattle.state.specs.Reply.{as_reply, ReplyWithin, completed}
use Rattle.answers.specs.declared.Answered.{Answered}
use Rattle.answers.specs.Answer.{reply_in, Replies}
use Rattle.machine.specs.Answered.{AnsweredAs}
use Rattle.answers.proofs.AnswerLaws.{reply_of_numbers, count_completed}
use Rattle.chunks.specs.declared.Chunk.{Chunk}
use Rattle.text.specs.Text.{placed, Put}
use Rattle.chunks.specs.Chunk.{text_from, Few, ends_run, ending, ChunkWritten, ChunkListed}
use Rattle.text.proofs.TextLaws.{placed_none, length_placed, next_after, put_after}

module _ (dv : Delivery) where
  -- WHAT IS STILL TO COME, by how the next step ends
  pub text_spent : (c t : ℕ) (m : Machine) → text_from dv 0 c t m ≡ last_line (spent c) t
  unfolding text_from trace_from run_from step_lines ran total_of
  text_spent c t m = ap (last_line (spent c)) (add-zero t)

  text_faults : (b c s n : ℕ) (t : Pointer) (m : Machine) → step_with dv m ≡ faults n t → text_from dv (suc b) c s m ≡ last_line (fault n c t) s
  unfolding text_from step_lines ran total_of
  text_faults b c s n t m e = rw (trace_faults dv b n t m e, run_faults dv b c n t m e) (ap (last_line (fault n c t)) (add-zero s))

  text_halts : (b c s : ℕ) (m k : Machine) → step_with dv m ≡ halts k →
      text_from dv (suc b) c s m ≡ step_line (suc c) (traced k (pointer_words m)) ++ last_line (halted (suc c)) (s + pointer_words m)
  unfolding text_from step_lines ran total_of traced
  text_halts b c s m k e =
      rw (trace_halts dv b m k e, run_halts dv b c m k e)
      (ap₂ (λ t n. t ++ last_line (halted (suc c)) (s + n)) (append-nil (step_line (suc c) (traced k (pointer_words m)))) (add-zero (pointer_words m)))

  text_completes : (b c s : ℕ) (m k : Machine) → step_with dv m ≡ completes k →
      text_from dv (suc b) c s m ≡ step_line (suc c) (traced k (pointer_words m)) ++ text_from dv b (suc c) (s + pointer_words m) k
  unfolding text_from step_lines total_of traced
  text_completes b c s m k e =
      rw (trace_completes dv b m k e, run_completes dv b c m k e)
      (append_assoc (step_line (suc c) (traced k (pointer_words m))) _ _
      ∙ ap (λ n. step_line (suc c) (traced k (pointer_words m)) ++ (step_lines (suc c) (trace_from dv b k) ++ last_line (run_from dv b (suc c) k).reply n))
      (sym (add_assoc s (pointer_words m) (total_of (trace_from dv b k)))))

  -- A RUN OF b STEPS, counted from d on: what comes after its steps' lines where c steps were complete before, how far it counts, and that it isn't refused
  after_chunk : (left c done total : ℕ) → Run.Reply → Machine → List ℕ
  after_chunk left c e s (refused n) k = []
  after_chunk left c e s (spent n) k = text_from dv left (c + e) s k
  after_chunk left c e s (halted n) k = last_line (halted (c + n)) s
  after_chunk left c e s (fault n d t) k = last_line (fault n (c + d) t) s

  count_of : Run.Reply → ℕ
  count_of (refused n) = 0
  count_of (spent n) = n
  count_of (halted n) = n
  count_of (fault n d t) = d

  goes_ahead : Run.Reply → Bool
  goes_ahead (refused n) = false
  goes_ahead (spent n) = true
  goes_ahead (halted n) = true
  goes_ahead (fault n d t) = true

  record ChunkRun (b d : ℕ) (m : Machine) (x : Run.Ran) : Type 0 where
    text : (c s left : ℕ) → text_from dv (b + left) (c + d) s m ≡ step_lines (c + d) (trace_from dv b m) ++ after_chunk left c (d + b) (s + total_of (trace_from dv b m)) x.reply x.machine
    count : count_of x.reply ≤ d + b
    goes : goes_ahead x.reply ≡ true

  chunk_run : (b d : ℕ) (m : Machine) → ChunkRun b d m (run_from dv b d m)
  unfolding after_chunk count_of goes_ahead ran step_lines trace_from total_of traced
  chunk_run =
      along_run dv ChunkRun
      (λ d m.
      record {
        text = λ c s left.
            ap₂ (λ n e. text_from dv n e s m) (let q : 0 + left ≡ left = omega arith in q) (let q : c + d ≡ c + (d + 0) = omega arith in q)
            ∙ ap (λ n. text_from dv left (c + (d + 0)) n m) (sym (add-zero s));
        count = omega arith;
        goes = refl;
      })
      (λ b d n t m e.
      record {
        text = λ c s left.
            ap (λ n. text_from dv n (c + d) s m) (more b left) ∙ text_faults (b + left) (c + d) s n t m e ∙ ap (last_line (fault n (c + d) t)) (sym (add-zero s))
            ∙ ap (λ ps. step_lines (c + d) ps ++ last_line (fault n (c + d) t) (s + total_of ps)) (sym (trace_faults dv b n t m e));
        count = omega arith;
        goes = refl;
      })
      (λ b d m k e.
      record {
        text = λ c s left.
            ap (λ n. text_from dv n (c + d) s m) (more b left) ∙ text_halts (b + left) (c + d) s m k e
            ∙ ap₂ (λ l n. l ++ last_line (halted n) (s + pointer_words m)) (sym (append-nil (step_line (suc (c + d)) (traced k (pointer_words m))))) (let q : suc (c + d) ≡ c + suc d = omega arith in q)
            ∙ ap (λ n. (step_line (suc (c + d)) (traced k (pointer_words m)) ++ []) ++ last_line (halted (c + suc d)) (s + n)) (sym (add-zero (pointer_words m)))
            ∙ ap (λ ps. step_lines (c + d) ps ++ last_line (halted (c + suc d)) (s + total_of ps)) (sym (trace_halts dv b m k e));
        count = omega arith;
        goes = refl;
      })
      (λ b d m k e h.
      record {
        text = λ c s left.
            ap (λ n. text_from dv n (c + d) s m) (more b left) ∙ text_completes (b + left) (c + d) s m k e
            ∙ ap (λ n. step_line (suc (c + d)) (traced k (pointer_words m)) ++ text_from dv (b + left) n (s + pointer_words m) k) (let q : suc (c + d) ≡ c + suc d = omega arith in q)
            ∙ ap (λ l. step_line (suc (c + d)) (traced k (pointer_words m)) ++ l) (h.text c (s + pointer_words m) left)
            ∙ ap₂ (λ n z. step_line (suc (c + d)) (traced k (pointer_words m)) ++ (step_lines n (trace_from dv b k) ++ after_chunk left c z (s + pointer_words m + total_of (trace_from dv b k)) (run_from dv b (suc d) k).reply (run_from dv b (suc d) k).machine))
            (let q : c + suc d ≡ suc (c + d) = omega arith in q) (let q : suc d + b ≡ d + suc b = omega arith in q)
            ∙ sym (append_assoc (step_line (suc (c + d)) (traced k (pointer_words m))) _ _)
            ∙ ap (λ n. (step_line (suc (c + d)) (traced k (pointer_words m)) ++ step_lines (suc (c + d)) (trace_from dv b k)) ++ after_chunk left c (d + suc b) n (run_from dv b (suc d) k).reply (run_from dv b (suc d) k).machine)
            (add_assoc s (pointer_words m) (total_of (trace_from dv b k)))
            ∙ ap (λ ps. step_lines (c + d) ps ++ after_chunk left c (d + suc b) (s + total_of ps) (run_from dv b (suc d) k).reply (run_from dv b (suc d) k).machine) (sym (trace_completes dv b m k e));
        count = let z = h.count in omega arith;
        goes = h.goes;
      })
    where
      more : (b left : ℕ) → suc b + left ≡ suc (b + left)
      more b left = omega arith

  -- the same of the code's reply
  module _ (b : ℕ) (m k : Machine) (y : Reply) (e : run_from dv b 0 m ≡ ran (as_reply y) k) where
    chunk_as : ChunkRun b 0 m (ran (as_reply y) k)
    chunk_as = subst (ChunkRun b 0 m) e (chunk_run b 0 m)

    chunk_text : (c s left : ℕ) → text_from dv (b + left) c s m ≡ step_lines c (trace_from dv b m) ++ after_chunk left c b (s + total_of (trace_from dv b m)) (as_reply y) k
    unfolding ran
    chunk_text c s left =
        ap (λ n. text_from dv (b + left) n s m) (let q : c ≡ c + 0 = omega arith in q) ∙ chunk_as.text c s left
        ∙ ap₂ (λ n z. step_lines n (trace_from dv b m) ++ after_chunk left c z (s + total_of (trace_from dv b m)) (as_reply y) k) (add-zero c) (let q : 0 + b ≡ b = omega arith in q)

    by_reply : (x : Reply) → ChunkRun b 0 m (ran (as_reply x) k) → completed x ≤ b
    unfolding ran count_of
    by_reply (Refused n) h = let z = h.count in omega arith
    by_reply (Spent n) h = let z = h.count in omega arith
    by_reply (Halted n) h = let z = h.count in omega arith
    by_reply (Fault n d t) h = let z = h.count in omega arith

    completed_within : completed y ≤ b
    completed_within = by_reply y chunk_as

    module _ (c s left r : ℕ) (sum : r ≡ s + total_of (trace_from dv b m)) where
      text_goes_on : ends_run y ≡ false → step_lines c (trace_from dv b m) ++ text_from dv left (c + b) r k ≡ text_from dv (b + left) c s m
      unfolding after_chunk
      text_goes_on f = sym (chunk_text c s left ∙ ap (λ l. step_lines c (trace_from dv b m) ++ l) (ap (λ n. after_chunk left c b n (as_reply y) k) (sym sum) ∙ here y f))
        where
          here : (x : Reply) → ends_run x ≡ false → after_chunk left c b r (as_reply x) k ≡ text_from dv left (c + b) r k
          here (Refused n) g = absurd (true≢false g)
          here (Spent n) g = refl
          here (Halted n) g = absurd (true≢false g)
          here (Fault n d t) g = absurd (true≢false g)

      text_ends : ends_run y ≡ true → step_lines c (trace_from dv b m) ++ ending c r y ≡ text_from dv (b + left) c s m
      unfolding after_chunk goes_ahead ran
      text_ends f = sym (chunk_text c s left ∙ ap (λ l. step_lines c (trace_from dv b m) ++ l) (ap (λ n. after_chunk left c b n (as_reply y) k) (sym sum) ∙ here y chunk_as.goes f))
        where
          here : (x : Reply) → goes_ahead (as_reply x) ≡ true → ends_run x ≡ true → after_chunk left c b r (as_reply x) k ≡ ending c r x
          here (Refused n) q g = absurd (false≢true q)
          here (Spent n) q g = absurd (false≢true g)
          here (Halted n) q g = refl
          here (Fault n d t) q g = refl

-- BYTES PUT: what stands before the place after them, and what stays
module _ (a r : ℕ) (w t u : List ℕ) (p : u ≡ placed a w t) (q : r ≡ a + length w) (h : r ≤ length t) where
  front : length (take a t ++ w) ≡ r
  front = omega (arith, length-append (take a t) w, length-take-le a t (omega arith))

  whole : u ≡ take a t ++ w ++ drop r t
  unfolding placed
  whole = p ∙ ap (λ k. take a t ++ w ++ drop k t) (sym q)

  pub put_take : take r u ≡ take a t ++ w
  put_take = ap (take r) whole ∙ take_at (take a t ++ w) (drop r t) r front

  pub put_drop : drop r u ≡ drop r t
  put_drop = ap (drop r) whole ∙ drop_at (take a t ++ w) (drop r t) r front

  pub put_length : length u ≡ length t
  put_length = ap length p ∙ length_placed a w t (omega arith)

module _ (dv : Delivery) where
  -- NO STEP READ MORE THAN 64, nor do the words of its trace say so
  few_traced : (b : ℕ) (m : Machine) → Few (trace_from dv b m)
  unfolding Few trace_from trace_on traced
  few_traced zero m = tt
  few_traced (suc b) m = on (step_with dv m) (λ k. few_traced b k)
    where
      on : (x : Outcome) → ((k : Machine) → Few (trace_from dv b k)) → Few (trace_on (pointer_words m) x (λ k. trace_from dv b k))
      on (faults n t) f = tt
      on (halts k) f = (pointer_words_within m, tt)
      on (completes k) f = (pointer_words_within m, f k)

pub few_at : (l : List ℕ) (i : ℕ) → Few (noted_steps l) → i < length l → get_or l i 0 / 4294967296 ≤ 64
unfolding Few step_in
few_at [] i f h = absurd (omega arith)
few_at (w ∷ l) zero f h = f.0
few_at (w ∷ l) (suc i) f h = few_at l i f.1 (omega arith)

-- THE STEPS' LINES, one after another from their trace
module _ (w v a : ℕ) (p : Code.Pointer) (e : DecodedPointer w p) where
  step_same : record { ipr = as_pointer p; pointers = w / 4294967296 } ≡ step_in w
  unfolding step_in
  step_same = ap (λ q. record { ipr = q; pointers = w / 4294967296 }) e.same

  pub step_put : (t u : List ℕ) → u ≡ placed a (step_line v (record { ipr = as_pointer p; pointers = w / 4294967296 })) t → u ≡ placed a (step_line v (step_in w)) t
  step_put t u h = h ∙ ap (λ q. placed a (step_line v q) t) step_same

  pub next_after_step : (r : ℕ) → r ≡ a + length (step_line v (record { ipr = as_pointer p; pointers = w / 4294967296 })) → r ≡ a + length (step_line v (step_in w))
  next_after_step r h = h ∙ ap (λ q. a + length (step_line v q)) step_same

pub ruleset line_of_a_step = (step_put, next_after_step)

lines_next : (c i v : ℕ) (l : List ℕ) → i < length l → v ≡ c + i + 1 →
    step_lines c (noted_steps (take i l)) ++ step_line v (step_in (get_or l i 0)) ≡ step_lines c (noted_steps (take (i + 1) l))
unfolding step_lines
lines_next c i v l h e =
    let p : Traced = step_in (get_or l i 0) in
    let n : length (noted_steps (take i l)) ≡ i = length-map (take i l) step_in ∙ length-take-le i l (omega arith) in
    sym
    (ap (λ k. step_lines c (noted_steps (take k l))) (add-one i) ∙ ap (λ xs. step_lines c (noted_steps xs)) (take-suc l i 0 h)
    ∙ ap (step_lines c) (map-append step_in (take i l) (get_or l i 0 ∷ []))
    ∙ step_lines_append c (noted_steps (take i l)) (p ∷ [])
    ∙ ap (λ t. step_lines c (noted_steps (take i l)) ++ t) (append-nil (step_line (suc (c + length (noted_steps (take i l)))) p))
    ∙ ap (λ k. step_lines c (noted_steps (take i l)) ++ step_line k p) (omega arith))

module _ (a c : ℕ) (l : List ℕ) where
  pub no_line_put : (t : List ℕ) → t ≡ placed a (step_lines c (noted_steps (take 0 l))) t
  unfolding step_lines
  no_line_put t = sym (placed_none a t)

  pub no_line_long : a ≡ a + length (step_lines c (noted_steps (take 0 l)))
  unfolding step_lines
  no_line_long = omega arith

  module _ (i r : ℕ) (q : r ≡ a + length (step_lines c (noted_steps (take i l)))) where
    module _ (n : ℕ) (h : i < n) (k : n ≤ length l) (d v s : ℕ) (before : d ≡ c + i) (now : v ≡ d + 1) (g : s ≡ r + length (step_line v (step_in (get_or l i 0)))) where
      with_line : step_lines c (noted_steps (take i l)) ++ step_line v (step_in (get_or l i 0)) ≡ step_lines c (noted_steps (take (i + 1) l))
      with_line = lines_next c i v l (omega arith) (omega arith)

      pub line_long : s ≡ a + length (step_lines c (noted_steps (take (i + 1) l)))
      line_long =
          next_after a r s (step_lines c (noted_steps (take i l))) (step_line v (step_in (get_or l i 0))) q g
          ∙ ap (λ z. a + length z) with_line

      pub line_put : (t u w : List ℕ) → u ≡ placed a (step_lines c (noted_steps (take i l))) t → w ≡ placed r (step_line v (step_in (get_or l i 0))) u →
          r ≤ a + 64 * i → s ≤ r + 64 → a + 64 * n ≤ length t →
          w ≡ placed a (step_lines c (noted_steps (take (i + 1) l))) t
      line_put t u w f o x y room =
          put_after a r s (step_lines c (noted_steps (take i l))) (step_line v (step_in (get_or l i 0))) t u w f q o g (omega arith)
          ∙ ap (λ z. placed a z t) with_line

    pub every_line_long : length l ≤ i → r ≡ a + length (step_lines c (noted_steps l))
    every_line_long h = q ∙ ap (λ xs. a + length (step_lines c (noted_steps xs))) (take_all i l h)

  pub every_line_put : (i : ℕ) (t u : List ℕ) → u ≡ placed a (step_lines c (noted_steps (take i l))) t → length l ≤ i → u ≡ placed a (step_lines c (noted_steps l)) t
  every_line_put i t u f h = f ∙ ap (λ xs. placed a (step_lines c (noted_steps xs)) t) (take_all i l h)

pub ruleset lines_of_steps = (few_at, no_line_put, no_line_long, every_line_long, every_line_put)

module _ (dv : Delivery) where
  -- A CHUNK'S RUN AND ITS LINES: 1 to 4 pass, so it is the definition's run; as many lines as the reply counts, and their trace is the definition's
  module _ (b : ℕ) (core : Core) (prs memory l₀ : List ℕ) (x : Answered) (prs_now memory_now l : List ℕ) (w : AnsweredAs dv false b core prs memory l₀ x prs_now memory_now l)
      (passes : start_questions dv (as_machine core prs memory) ≡ 0) (y : Reply) (r : Replies x y) where
    reply_same : as_reply y ≡ (run dv b (as_machine core prs memory)).reply
    reply_same = r.same ∙ ap reply_in w.numbers_same ∙ reply_of_numbers _

    count_same : completed y ≡ x.count
    count_same =
        sym (count_completed y) ∙ ap (λ (p : Run.Reply). (reply_numbers p).count) reply_same ∙ sym (ap (λ (n : Numbers). n.count) w.numbers_same)

    run_same : run_from dv b 0 (as_machine core prs memory) ≡ ran (as_reply y) (as_machine x.core prs_now memory_now)
    unfolding ran
    run_same = sym (run_goes dv b (as_machine core prs memory) passes) ∙ sym (ap₂ ran reply_same w.machine_same)

    within_budget : completed y ≤ b
    within_budget = completed_within dv b (as_machine core prs memory) (as_machine x.core prs_now memory_now) y run_same

    module _ (n : ℕ) (f : n ≡ completed y) where
      pub steps_have_room : (a l : ℕ) → a + 64 * b ≤ l → a + 64 * n ≤ l
      steps_have_room a l h = let g = within_budget in omega arith

      pub steps_traced : b ≤ length l₀ → n ≤ length l
      steps_traced h = let g = within_budget in let q = w.trace_size in omega arith

      pub steps_fit : (c : ℕ) → c + b < 2 ^ 32 → c + n < 2 ^ 32
      steps_fit c h = let g = within_budget in omega arith

      same_steps : b ≤ length l₀ → noted_steps (take n l) ≡ trace_from dv b (as_machine core prs memory)
      same_steps h = ap (λ i. noted_steps (take i l)) (f ∙ count_same) ∙ w.traced passes h

      pub steps_few : b ≤ length l₀ → Few (noted_steps (take n l))
      steps_few h = subst Few (sym (same_steps h)) (few_traced dv b (as_machine core prs memory))

      module _ (h : b ≤ length l₀) (c a : ℕ) (t u : List ℕ) (z : ℕ) (p : Put (64 * n) a (step_lines c (noted_steps (take n l))) t u z) where
        same_lines : step_lines c (noted_steps (take n l)) ≡ step_lines c (trace_from dv b (as_machine core prs memory))
        same_lines = ap (step_lines c) (same_steps h)

        total_same : x.pointers ≡ total_of (trace_from dv b (as_machine core prs memory))
        unfolding total
        total_same = w.pointers_same ∙ ap total_of (trace_goes dv b (as_machine core prs memory) passes)

        few_words : x.pointers ≤ 64 * b
        few_words =
            let g = within_budget in
            let q = total_within dv b (as_machine core prs memory) in
            let z : (reply_numbers (run dv b (as_machine core prs memory)).reply).count ≡ x.count = sym (ap (λ (n : Numbers). n.count) w.numbers_same) in
            omega (arith, q, w.pointers_same, z, count_same, g)

        pub chunk_written : ChunkWritten dv (as_machine core prs memory) c b a t (record { reply = y; core = x.core; total = x.pointers; length = z })
            (as_machine x.core prs_now memory_now) u
        chunk_written =
            record {
              ran_same = run_same;
              pointer_within = r.within;
              passes = w.passes passes;
              counted = within_budget;
              put = (
                p.0 ∙ ap (λ q. placed a q t) same_lines,
                p.1 ∙ ap (λ q. a + length q) same_lines,
                let g = within_budget in let q = p.2 in omega arith,
              );
              total_same = total_same;
              total_within = few_words;
            }

-- THE ENDING, by the reply that is at hand
module _ (y : Reply) (c s : ℕ) where
  pub halt_fits : (d : ℕ) → y ≡ Halted d → c + completed y < 2 ^ 32 → c + d < 2 ^ 32
  halt_fits d f h = let q : completed y ≡ d = ap completed f in omega arith

  pub fault_fits : (n d : ℕ) (t : Code.Pointer) → y ≡ Fault n d t → c + completed y < 2 ^ 32 → c + d < 2 ^ 32
  fault_fits n d t f h = let q : completed y ≡ d = ap completed f in omega arith

  -- a fault's pointer fits a line
  pub fault_within : (n d : ℕ) (t : Code.Pointer) → ReplyWithin y → y ≡ Fault n d t → PointerWithin t
  fault_within n d t w f = subst ReplyWithin f w

  module _ (z : Reply) (f : y ≡ z) where
    pub ending_put : (a : ℕ) (t u : List ℕ) → u ≡ placed a (ending c s z) t → u ≡ placed a (ending c s y) t
    ending_put a t u g = g ∙ ap (λ (x : Reply). placed a (ending c s x) t) (sym f)

    pub ending_long : (a r : ℕ) → r ≡ a + length (ending c s z) → r ≡ a + length (ending c s y)
    ending_long a r g = g ∙ ap (λ (x : Reply). a + length (ending c s x)) (sym f)

  module _ (d : ℕ) (f : y ≡ Spent d) (a : ℕ) where
    pub no_ending_put : (t : List ℕ) → t ≡ placed a (ending c s y) t
    no_ending_put t = sym (placed_none a t) ∙ ap (λ (x : Reply). placed a (ending c s x) t) (sym f)

    pub no_ending_long : a ≡ a + length (ending c s y)
    no_ending_long = let q : length (ending c s y) ≡ 0 = ap (λ (x : Reply). length (ending c s x)) f in omega arith

pub ruleset endings = (halt_fits, fault_fits, fault_within, ending_put, ending_long, no_ending_put, no_ending_long)

module _ (dv : Delivery) where
  -- THE CHUNK WHOLE
  module _ (m : Machine) (c s b a : ℕ) (t : List ℕ) (x : Chunk) (k : Machine) (u : List ℕ) (w : ChunkWritten dv m c b a t x k u)
      (room : a + 64 * b + 64 ≤ length t) where
    pub ending_has_room : x.length + 64 ≤ length u
    ending_has_room = let g = w.put in let q : length u ≡ length t = put_length a x.length _ t u g.0 g.1 (omega arith) in omega arith

    pub ending_fits : c + b < 2 ^ 32 → c + completed x.reply < 2 ^ 32
    ending_fits h = let g = w.counted in omega arith

    pub sum_fits : s ≤ 64 * c → c + b < 2 ^ 32 → s + x.total < 2 ^ 64
    sum_fits h k = let g = w.total_within in omega arith

    module _ (last : Bool) (f : last ≡ ends_run x.reply) (v : List ℕ) (p : v ≡ placed x.length (ending c (s + x.total) x.reply) u) (r : ℕ)
        (q : r ≡ x.length + length (ending c (s + x.total) x.reply)) (h : r ≤ x.length + 64) where
      fits : r ≤ length t
      fits = let g = w.put in omega arith

      lines : List ℕ
      lines = step_lines c (trace_from dv b m) ++ ending c (s + x.total) x.reply

      put_lines : v ≡ placed a lines t
      unfolding lines
      put_lines = put_after a x.length r (step_lines c (trace_from dv b m)) (ending c (s + x.total) x.reply) t u v w.put.0 w.put.1 p q fits

      long_lines : r ≡ a + length lines
      unfolding lines
      long_lines = next_after a x.length r (step_lines c (trace_from dv b m)) (ending c (s + x.total) x.reply) w.put.1 q

      no_ending : (y : Reply) → ends_run y ≡ false → ending c (s + x.total) y ≡ []
      no_ending (Refused n) g = absurd (true≢false g)
      no_ending (Spent n) g = refl
      no_ending (Halted n) g = absurd (true≢false g)
      no_ending (Fault n d z) g = absurd (true≢false g)

      sum : s + x.total ≡ s + total_of (trace_from dv b m)
      sum = ap (λ n. s + n) w.total_same

      pub chunk_listed : ChunkListed dv m c s b a t (record { core = x.core; length = r; is_last = last; total = s + x.total }) k v
      unfolding lines
      chunk_listed =
          record {
            goes_on = λ g left.
                ap (λ z. take a t ++ z) (sym (text_goes_on dv b m _ x.reply w.ran_same c s left _ sum (sym f ∙ g)))
                ∙ sym (append_assoc (take a t) _ _)
                ∙ ap (λ z. z ++ text_from dv left (c + b) (s + x.total) k)
                (ap (λ z. take a t ++ z) (sym (append-nil (step_lines c (trace_from dv b m))) ∙ ap (λ z. step_lines c (trace_from dv b m) ++ z) (sym (no_ending x.reply (sym f ∙ g))))
                ∙ sym (put_take a r lines t v put_lines long_lines fits));
            ends = λ g left.
                ap (λ z. take a t ++ z) (sym (text_ends dv b m _ x.reply w.ran_same c s left _ sum (sym f ∙ g)))
                ∙ sym (put_take a r lines t v put_lines long_lines fits);
            rest_same = put_drop a r lines t v put_lines long_lines fits;
            size_same = put_length a r lines t v put_lines long_lines fits;
            fits = fits;
            grows = omega (arith, long_lines);
            near = let g = w.put in omega arith;
            short = λ g. let e : length (ending c (s + x.total) x.reply) ≡ 0 = ap length (no_ending x.reply (sym f ∙ g)) in let y = w.put in omega arith;
            total_within = λ h. let g = w.total_within in omega arith;
            passes = w.passes;
          }

pub ruleset chunks = (ending_has_room, ending_fits, sum_fits, chunk_listed)
