-- A listing chunk by chunk: one law for each way out of the loop and for its next turn, and the listing whole. Assumes nothing.
use mathlib.Core.Path.{◌≡◌, refl, sym, ◌∙◌, ap, ap₂}
use mathlib.Core.Bool.{true, false, false≢true, true≢false}
use mathlib.Core.List.{List, ◌++◌}
use Prim.Native.Nat.{ℕ, ◌+◌, ◌-◌, ◌*◌, ◌≤◌, ◌<◌}
use native.Mathlib.Nat.{zero-add}
use native.Mathlib.Omega.{arith}
use lib.ListN.{length, take, drop, take-append-drop}
use lib.Seq.{drop-drop, length-take-le}
use Rattle.model.specs.Registers.{Delivery, Machine}
use Rattle.model.specs.Questions.{start_questions}
use Rattle.model.specs.Run as Run
use Rattle.model.specs.Run.{spent, total_of, total}
use Rattle.model.specs.Listing.{step_lines, last_line, listing}
use Rattle.model.proofs.RunLaws.{run_goes, trace_goes}
use Rattle.chunks.specs.declared.Line.{Line}
use Rattle.listing.specs.declared.Listed.{Listed}
use Rattle.text.specs.Text.{placed}
use Rattle.chunks.specs.Chunk.{text_from, ChunkListed}
use Rattle.listing.specs.Lines.{LinesWritten}
use Rattle.chunks.proofs.ChunkLaws.{text_spent, put_take, put_drop, put_length}

pub first_lines : (z t : List ℕ) → take 0 t ++ z ≡ z
first_lines z t = refl

-- bytes after the lines stay
drop_further : (a r : ℕ) (t u : List ℕ) → a ≤ r → drop a t ≡ drop a u → drop r t ≡ drop r u
drop_further a r t u h e = split t ∙ ap (drop (r - a)) e ∙ sym (split u)
  where
    split : (l : List ℕ) → drop r l ≡ drop (r - a) (drop a l)
    split l = ap (λ n. drop n l) (let q : r ≡ a + (r - a) = omega arith in q) ∙ sym (drop-drop (r - a) a l)

module _ {dv : Delivery} where
  -- a step's line has at most 64 bytes
  pub next_far : {m k : Machine} {c o s a : ℕ} {t u : List ℕ} {y : Line} (c₀ : ℕ) → ChunkListed dv m c o s a t y k u → y.is_last ≡ false → a ≤ 64 * (c - c₀) → c₀ ≤ c →
      y.length ≤ 64 * (c + s - c₀)
  next_far c₀ w f far from = omega (arith, w.short f)

  -- and 64 pointer words
  pub next_few : {m k : Machine} {c o s a : ℕ} {t u : List ℕ} {y : Line} → ChunkListed dv m c o s a t y k u → o ≤ 64 * c → y.total ≤ 64 * (c + s)
  next_few w h = w.total_within h

  -- THE LOOP: after c of b steps the lines stand before the place that x names, and what is to come follows them
  module _ (m₀ : Machine) (c₀ o b : ℕ) (t₀ : List ℕ) (x : Line) (c : ℕ) (m : Machine) (t : List ℕ)
      (e : take x.length t ++ text_from dv (b - c) c x.total m ≡ text_from dv (b - c₀) c₀ o m₀) (rest : drop x.length t ≡ drop x.length t₀) (size : length t ≡ length t₀)
      (fits : x.length ≤ length t) (far : x.length ≤ 64 * (c - c₀)) (from : c₀ ≤ c) (within : c ≤ b)
      (few : x.total ≤ 64 * c) where
    -- no room
    full : length t - x.length < 128 → ((64 * (b - c₀ + 1) ≤ length t₀) → ⊥) → x.is_last ≡ false → start_questions dv m ≡ 0 → LinesWritten dv m₀ c₀ o b t₀ (record { line = x; count = c }) m t
    full near short f passes =
        record {
          goes_on = λ _. e;
          ends = λ g. absurd (false≢true (sym f ∙ g));
          rest_same = rest;
          size_same = size;
          fits = omega arith;
          short = omega arith;
          count_within = within;
          total_within = λ _. few;
          passes = passes;
          full = λ _. omega arith;
          has_room = λ h. absurd (short h);
        }

    pub lines_full : c < b → length t - x.length < 128 → x.is_last ≡ false → start_questions dv m ≡ 0 → LinesWritten dv m₀ c₀ o b t₀ (record { line = x; count = c }) m t
    lines_full h s = full s (λ g. omega arith)

    pub lines_full_at_last : b ≤ c → length t - x.length < 64 → x.is_last ≡ false → start_questions dv m ≡ 0 →
        LinesWritten dv m₀ c₀ o b t₀ (record { line = x; count = c }) m t
    lines_full_at_last h s = full (omega arith) (λ g. omega arith)

    -- the budget is spent
    pub lines_spent : (r : ℕ) (u : List ℕ) → b ≤ c → 64 ≤ length t - x.length → u ≡ placed x.length (last_line (spent c) x.total) t →
        r ≡ x.length + length (last_line (spent c) x.total) → r ≤ x.length + 64 → start_questions dv m ≡ 0 →
        LinesWritten dv m₀ c₀ o b t₀ (record { line = record { core = x.core; length = r; is_last = true; total = x.total }; count = c }) m u
    lines_spent r u h room p q s passes =
        record {
          goes_on = λ g. absurd (true≢false g);
          ends =
              λ _. put_take x.length r _ t u p q here ∙ ap (λ v. take x.length t ++ v) (sym (text_spent dv c x.total m))
              ∙ ap (λ n. take x.length t ++ text_from dv n c x.total m) (let q : 0 ≡ b - c = omega arith in q) ∙ e;
          rest_same = put_drop x.length r _ t u p q here ∙ drop_further x.length r t t₀ (omega arith) rest;
          size_same = put_length x.length r _ t u p q here ∙ size;
          fits = omega arith;
          short = omega arith;
          count_within = within;
          total_within = λ g. absurd (true≢false g);
          passes = passes;
          full = λ g. absurd (true≢false g);
          has_room = λ _. refl;
        }
      where
        here : r ≤ length t
        here = omega arith

    -- a chunk of s more steps
    module _ (s : ℕ) (more : s ≤ b - c) (u : List ℕ) (y : Line) (k : Machine) (w : ChunkListed dv m c x.total s x.length t y k u) where
      some_more : take x.length t ++ text_from dv (s + (b - (c + s))) c x.total m ≡ text_from dv (b - c₀) c₀ o m₀
      some_more = ap (λ n. take x.length t ++ text_from dv n c x.total m) (let q : s + (b - (c + s)) ≡ b - c = omega arith in q) ∙ e

      pub next_rest : drop y.length u ≡ drop y.length t₀
      next_rest = w.rest_same ∙ drop_further x.length y.length t t₀ w.grows rest

      pub next_size : length u ≡ length t₀
      next_size = w.size_same ∙ size

      pub next_fits : y.length ≤ length u
      next_fits = omega (arith, w.fits, w.size_same)

      pub next_passes : start_questions dv k ≡ 0
      next_passes = w.passes

      pub lines_last : y.is_last ≡ true → LinesWritten dv m₀ c₀ o b t₀ (record { line = y; count = c }) k u
      lines_last f =
          record {
            goes_on = λ g. absurd (true≢false (sym f ∙ g));
            ends = λ _. sym (w.ends f (b - (c + s))) ∙ some_more;
            rest_same = next_rest;
            size_same = next_size;
            fits = omega (arith, w.fits);
            short = omega (arith, w.near);
            count_within = within;
            total_within = λ g. absurd (true≢false (sym f ∙ g));
            passes = w.passes;
            full = λ g. absurd (true≢false (sym f ∙ g));
            has_room = λ _. f;
          }

      pub next_lines : y.is_last ≡ false → take y.length u ++ text_from dv (b - (c + s)) (c + s) y.total k ≡ text_from dv (b - c₀) c₀ o m₀
      next_lines f = sym (w.goes_on f (b - (c + s))) ∙ some_more

pub ruleset lines_of_a_run = (first_lines, lines_full, lines_full_at_last, lines_spent, lines_last, next_rest, next_size, next_fits, next_passes, next_lines)

module _ {dv : Delivery} where
  -- THE WHOLE LISTING, where there is room for it
  module _ (b : ℕ) (m : Machine) (t u : List ℕ) (y : Listed) (k : Machine) (w : LinesWritten dv m 0 0 b t y k u) (h : 64 * (b + 1) ≤ length t)
      (passes : start_questions dv m ≡ 0) where
    from_the_start : text_from dv (b - 0) 0 0 m ≡ listing dv b m
    unfolding text_from listing total
    from_the_start =
        ap (λ n. text_from dv n 0 0 m) (let e : b - 0 ≡ b = omega arith in e)
        ∙ ap₂ (λ ps (r : Run.Ran). step_lines 0 ps ++ last_line r.reply (0 + total_of ps)) (sym (trace_goes dv b m passes)) (sym (run_goes dv b m passes))
        ∙ ap (λ n. step_lines 0 (Run.trace dv b m) ++ last_line (Run.run dv b m).reply n) (zero-add (total_of (Run.trace dv b m)))

    written : take y.line.length u ≡ listing dv b m
    written = w.ends (w.has_room (let e : 64 * (b - 0 + 1) ≤ length t = omega arith in e)) ∙ from_the_start

    pub whole_size : y.line.length ≡ length (listing dv b m)
    whole_size = sym (length-take-le y.line.length u (omega (arith, w.fits, w.size_same))) ∙ ap length written

    pub whole_text : u ≡ listing dv b m ++ drop (length (listing dv b m)) t
    whole_text = sym (take-append-drop y.line.length u) ∙ ap₂ ◌++◌ written (w.rest_same ∙ ap (λ n. drop n t) whole_size)

    pub whole_short : y.line.length ≤ 64 * (b + 1)
    whole_short = omega (arith, w.short)

pub ruleset whole_listings = (whole_size, whole_text, whole_short)
