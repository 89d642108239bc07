-- A piece of a stored image: a law for each outcome, and what they say of `convert`. Assumes nothing.
use mathlib.Core.Path.{◌≡◌, refl, sym, ◌∙◌, ap, ap₂}
use mathlib.Core.Bool.{Bool, true, true≢false}
use mathlib.Core.List.{List, [], ◌∷◌, ◌++◌, append_assoc, append-nil}
use Prim.Native.Nat.{ℕ, zero, suc, ◌+◌, ◌-◌, ◌≤◌, ◌<◌, ◌^◌}
use native.Mathlib.Omega.{arith}
use lib.ListN.{length, take, drop, length-append, length-drop}
use lib.Seq.{take_at, drop_at, take-take, drop-append-add, length-take-le, drop-drop, take-add, take-nil, drop-nil}
use mir.Syntax.{w64}
use mir.Val.{Fits}
use Rattle.model.specs.Questions.{start_questions}
use Rattle.model.specs.Image as Image
use Rattle.model.specs.Registers.{Delivery, Machine}
use Rattle.model.specs.Convert.{records, joined, left_over, last_of_each, kept_of, compacted, convert_on, convert_after}
use Rattle.formats.proofs.ImageLaws.{checked_refused, checked_passed}
use Rattle.formats.proofs.CutLaws.{cut}
use Rattle.formats.proofs.LastLaws.{compacted_early}
use Rattle.formats.proofs.OverwrittenLaws.{last_of_each_loads}
use Rattle.loading.specs.declared.Loading.{Loading}
use Rattle.loading.specs.View.{as_loading}
use Rattle.loading.specs.Record.{Goes, outcome_image, StartOf}
use Rattle.image.specs.declared.load.LoadOutcome.TheVariants as Load
use Rattle.image.specs.declared.load.LoadOutcome.{LoadOutcome}
use Rattle.image.specs.declared.error.ImageError.{ImageError}
use Rattle.image.specs.Load.{LoadedAs}
use Rattle.image.proofs.LoadLaws.{words_within, loaded_delivery, loaded_full}
use Rattle.host.specs.Record.{machine_of, delivery_of}
use Rattle.questions.specs.Numbers.{number_by, start_number}
use Rattle.questions.specs.declared.start.StartError.{StartError}
use Rattle.loading.specs.declared.error.LoadError.{LoadError}
use Rattle.loading.specs.declared.Start.{Start}
use Rattle.std.specs.Prelude.{Result, Ok, Err}
use Rattle.buffers.specs.Move.{bytes_moved}
use Rattle.buffers.proofs.MoveLaws.{length_moved, take_moved}
use Rattle.compaction.specs.Compacted.{Compacted}
use Rattle.compaction.specs.Renewed.{with_zeros, Renewed}
use Rattle.compaction.proofs.StartLaws.{renewed_compacted}
use Rattle.conversion.specs.declared.ConvertOutcome.{ConvertOutcome}
use Rattle.conversion.specs.declared.ConvertOutcome.TheVariants.{More, Ready}
use Rattle.conversion.specs.Piece.{waiting, JudgedAs, PieceJudged, BufferAfter, PieceWithin, PieceConverted, convert_by, AcceptedWith, NothingAccepted, ReadingAccepts, Goes_on, PiecesConvert, RoomMade}

-- BYTES THAT WAIT
drop_take : {A : Type 0} (a b : ℕ) (xs : List A) → drop a (take b xs) ≡ take (b - a) (drop a xs)
drop_take zero b xs = ap (λ n. take n xs) (let e : b ≡ b - 0 = omega arith in e)
drop_take (suc a) zero xs = drop-nil (suc a) ∙ sym (ap (λ n. take n (drop (suc a) xs)) (let e : 0 - suc a ≡ 0 = omega arith in e))
drop_take (suc a) (suc b) [] = sym (take-nil (suc b - suc a))
drop_take (suc a) (suc b) (x ∷ xs) = drop_take a b xs ∙ ap (λ n. take n (drop a xs)) (let e : b - a ≡ suc b - suc a = omega arith in e)

start_nonzero : (error : StartError) → start_number error ≡ 0 → ⊥
start_nonzero StartError.MemoryTooLarge e = omega arith
start_nonzero StartError.OutOfRange e = omega arith
start_nonzero StartError.RingsBelow e = omega arith
start_nonzero StartError.BaseOutsideMemory e = omega arith

module _ (l : Loading) (m t : List ℕ) (kept size : ℕ) (e : Bool) (x : Result LoadOutcome LoadError) (j : Loading) (m_now : List ℕ)
    (w : LoadedAs l m (waiting kept size t) e x j m_now) (full : length m ≡ 8320) (h : kept ≤ size) (room : size + 5 ≤ length t) where
  waiting_size : length (waiting kept size t) ≡ size - kept
  waiting_size = length-take-le (size - kept) (drop kept t) (let z = length-drop kept t in omega arith)

  pub piece_refused : (error : LoadError) → x ≡ Err error → PieceConverted l m t kept size e (Err (ImageError.Load error)) j m_now t
  unfolding PieceJudged JudgedAs BufferAfter PieceWithin Goes outcome_image
  piece_refused error o =
      record {
        store_size = w.size_same ∙ full;
        within = w.within;
        judged = λ rest z. w.goes rest z ∙ rw o;
        buffer_after = refl;
        outcome_within = tt;
      }

  module _ (used : ℕ) (o : x ≡ Ok (Load.More used)) where
    used_within : used ≤ size - kept
    used_within = let q = (rw o at w.outcome_within).1 in omega (arith, waiting_size)

    pub loaded_fits : size < 2 ^ 64 → Fits w64 (kept + used)
    loaded_fits f = record { fits = let y = used_within in omega arith }

    still_waiting : drop used (waiting kept size t) ≡ waiting (kept + used) size t
    still_waiting =
        drop_take used (size - kept) (drop kept t)
        ∙ ap₂ (λ n ys. take n ys) (let q : size - kept - used ≡ size - (kept + used) = omega arith in q) (drop-drop used kept t)

    pub piece_more : PieceConverted l m t kept size e (Ok (More (kept + used))) j m_now t
    unfolding PieceJudged JudgedAs BufferAfter PieceWithin Goes outcome_image
    piece_more =
        record {
          store_size = w.size_same ∙ full;
          within = w.within;
          judged = λ rest z. w.goes rest z ∙ rw o (ap (λ ys. Image.image_after (as_loading j m_now) (ys ++ rest)) still_waiting);
          buffer_after = refl;
          outcome_within =
              let q = rw o at w.outcome_within in
              (q.0, omega arith, let y = used_within in omega arith, let r = q.2 in let y = used_within in omega (arith, waiting_size));
        }

  -- once RN has come, ME and ST have, and 1 to 4 are asked
  module _ (s : Start) (o : x ≡ Ok (Load.Ready s)) where
    ready : StartOf j s
    ready = (rw o at w.outcome_within).1

    full_now : length m_now ≡ 8320
    full_now = w.size_same ∙ full

    pub ready_words : s.words ≤ length m_now
    ready_words = words_within j m_now s ready w.within full_now

    module _ {A : Type 0} (r : Result A StartError) (asked : number_by start_number r ≡ start_questions (delivery_of s.registers) (machine_of s.registers (take s.words m_now))) where
      whole : (rest : List ℕ) → (e ≡ true → rest ≡ []) →
          Image.image_after (as_loading l m) (waiting kept size t ++ rest) ≡ Image.checked (delivery_of s.registers) (machine_of s.registers (take s.words m_now)) s.budget
      unfolding Goes outcome_image
      whole rest z = w.goes rest z ∙ rw o (ap₂ (λ d k. Image.checked d k s.budget) (loaded_delivery j m_now s ready) (loaded_full j m_now s ready full_now))

      pub piece_judged_no : (error : StartError) → r ≡ Err error → PieceConverted l m t kept size e (Err (ImageError.Start error)) j m_now t
      unfolding PieceJudged JudgedAs BufferAfter PieceWithin
      piece_judged_no error q =
          record {
            store_size = full_now;
            within = w.within;
            judged = λ rest z. whole rest z ∙ checked_refused _ _ s.budget (start_number error) (rw q at asked) (start_nonzero error);
            buffer_after = refl;
            outcome_within = tt;
          }

      pub piece_ready : (a : A) → r ≡ Ok a → (k : ℕ) (u : List ℕ) → Renewed size t k u → PieceConverted l m t kept size e (Ok (Ready k)) j m_now u
      unfolding PieceJudged JudgedAs BufferAfter PieceWithin
      piece_ready a q k u c =
          record {
            store_size = full_now;
            within = w.within;
            judged =
                λ rest z.
                (delivery_of s.registers, (machine_of s.registers (take s.words m_now), (s.budget, whole rest z ∙ checked_passed _ _ s.budget 0 (rw q at asked) refl)));
            buffer_after = c;
            outcome_within = (rw o at w.outcome_within).0;
          }

pub ruleset pieces = (loaded_fits, piece_more, ready_words)

-- ROOM: dropping early changes nothing, and what waits follows
module _ (kept size : ℕ) (t : List ℕ) (h : kept ≤ size) (room : size ≤ length t) (n : ℕ) (v : List ℕ) (c : Compacted kept t n v) where
  front : take n v ≡ kept_of (take kept t)
  front = ap (take n) c.bytes ∙ take_at (kept_of (take kept t)) (drop n t) n (sym c.size)

  pub compacted_length : length v ≡ length t
  compacted_length =
      let z = length-append (kept_of (take kept t)) (drop n t) in
      let y = length-drop n t in
      ap length c.bytes ∙ z ∙ (let s = c.size in let q = c.shorter in let g : length (kept_of (take kept t)) + length (drop n t) ≡ length t = omega arith in g)

  pub room_to_move : (n ≤ kept) × (kept + (size - kept) ≤ length v)
  room_to_move = (c.shorter, let z = compacted_length in omega arith)

  rest_same : drop kept v ≡ drop kept t
  rest_same =
      let new = kept_of (take kept t) in
      let s = c.size in
      let q = c.shorter in
      ap (drop kept) c.bytes ∙ ap (λ k. drop k (new ++ drop n t)) (let g : kept ≡ length new + (kept - n) = omega arith in g)
      ∙ drop-append-add new (drop n t) (kept - n) ∙ drop-drop (kept - n) n t ∙ ap (λ k. drop k t) (let g : n + (kept - n) ≡ kept = omega arith in g)

  module _ (u : List ℕ) (e : u ≡ bytes_moved kept n (size - kept) v) where
    moved : take (n + (size - kept)) u ≡ take n v ++ take (size - kept) (drop kept v)
    moved = ap (take (n + (size - kept))) e ∙ take_moved v kept n (size - kept) room_to_move.0 room_to_move.1

    front_size : length (take n v) ≡ n
    front_size = length-take-le n v (let z = compacted_length in let q = c.shorter in omega arith)

    front_now : take n u ≡ kept_of (take kept t)
    front_now =
        sym (take-take n (n + (size - kept)) u (omega arith)) ∙ ap (take n) moved ∙ take_at (take n v) (take (size - kept) (drop kept v)) n front_size ∙ front

    same_on : (i : Image.Image) (bs : List ℕ) → convert_on i (take n u ++ bs) ≡ convert_on i (take kept t ++ bs)
    unfolding convert_on
    same_on (Image.refused_image k) bs = refl
    same_on (Image.loaded d m b) bs = ap (λ xs. compacted (xs ++ bs)) front_now ∙ compacted_early (take kept t) bs

    still_accepted : (bs : List ℕ) (d : Delivery) (m : Machine) (b : ℕ) → Image.stored_image (take kept t ++ bs) ≡ Image.loaded d m b →
        Image.stored_image (take n u ++ bs) ≡ Image.loaded d m b
    unfolding Image.stored_image kept_of
    still_accepted bs d m b a =
        let xs = records Image.stored (take kept t) in
        let after = left_over Image.stored (take kept t) in
        let c = cut Image.stored (take kept t) in
        let whole : joined xs ++ (after ++ bs) ≡ take kept t ++ bs = sym (append_assoc (joined xs) after bs) ∙ ap (λ ys. ys ++ bs) c.same in
        let now : joined (last_of_each xs) ++ (after ++ bs) ≡ take n u ++ bs = sym (append_assoc (joined (last_of_each xs)) after bs) ∙ ap (λ ys. ys ++ bs) (sym front_now) in
        ap Image.stored_image (sym now) ∙ last_of_each_loads (Image.nothing_loaded Image.stored) xs (after ++ bs) d m b refl c.all_whole (ap Image.stored_image whole ∙ a)

    pub room_made : RoomMade kept size t n u
    unfolding convert_after AcceptedWith
    room_made =
        record {
          converts_same = λ l bs. same_on (Image.image_after l bs) bs;
          accepts_same = λ l bs g rest d m b a. still_accepted (bs ++ rest) d m b (g rest d m b a);
          waiting_same =
              sym (drop_take n (n + (size - kept)) u) ∙ ap (drop n) moved ∙ drop_at (take n v) (take (size - kept) (drop kept v)) n front_size
              ∙ ap (take (size - kept)) rest_same;
          shorter = c.shorter;
          size_same = ap length e ∙ length_moved v kept n (size - kept) room_to_move.0 room_to_move.1 ∙ compacted_length;
        }

pub ruleset rooms = (room_to_move, room_made)

-- WHAT `convert` GIVES, by the outcome of a piece
parts_join : (k size : ℕ) (t rest : List ℕ) → k ≤ size → take k t ++ (waiting k size t ++ rest) ≡ take size t ++ rest
parts_join k size t rest h =
    sym (append_assoc (take k t) (waiting k size t) rest)
    ∙ ap (λ xs. xs ++ rest) (sym (take-add k (size - k) t) ∙ ap (λ n. take n t) (let e : k + (size - k) ≡ size = omega arith in e))

pub renewed_length : (size : ℕ) (t : List ℕ) → size + 5 ≤ length t → (n : ℕ) (u : List ℕ) → Renewed size t n u → length u ≡ length t
renewed_length size t room n u c =
    let new = with_zeros (kept_of (take size t)) in
    let z = length-append new (drop n t) in
    let y = length-drop n t in
    ap length c.bytes ∙ z ∙ (let s = c.size in let q = c.within in let g : length new + length (drop n t) ≡ length t = omega arith in g)

front_renewed : (size : ℕ) (t : List ℕ) (n : ℕ) (u : List ℕ) → Renewed size t n u → (d : Delivery) (m : Machine) (b : ℕ) →
    Image.stored_image (take size t) ≡ Image.loaded d m b → take n u ≡ compacted (take size t)
front_renewed size t n u c d m b a =
    ap (take n) c.bytes ∙ take_at (with_zeros (kept_of (take size t))) (drop n t) n (sym c.size) ∙ renewed_compacted (take size t) d m b a

module _ (l : Image.Loading) (t : List ℕ) (kept size : ℕ) (e : Bool) (k : Image.Loading) (u : List ℕ) (h : kept ≤ size)
    (g : AcceptedWith (take kept t) l (waiting kept size t)) (rest : List ℕ) (z : e ≡ true → rest ≡ []) where
  abbrev given : List ℕ
  given = waiting kept size t ++ rest

  by_outcome : (o : Result ConvertOutcome ImageError) → JudgedAs o (Image.image_after l given) k size t rest → BufferAfter o size t u → PieceWithin kept size e o →
      convert_after l (take kept t) given ≡ convert_by o k size u rest
  unfolding convert_after convert_on convert_by JudgedAs BufferAfter PieceWithin AcceptedWith
  by_outcome (Err error) j a p = rw j refl
  by_outcome (Ok (More n)) j a p =
      ap₂ convert_on j (parts_join kept size t rest h ∙ sym (parts_join n size t rest p.2))
      ∙ ap (λ xs. convert_on (Image.image_after k (waiting n size xs ++ rest)) (take n xs ++ (waiting n size xs ++ rest))) (sym a)
  by_outcome (Ok (Ready n)) j a p =
      let all : take kept t ++ given ≡ take size t = parts_join kept size t rest h ∙ ap (λ xs. take size t ++ xs) (z p) ∙ append-nil (take size t) in
      let accepted = j.1.1.1 in
      ap₂ convert_on accepted all
      ∙ sym (front_renewed size t n u a j.0 j.1.0 j.1.1.0 (ap Image.stored_image (sym all) ∙ g rest j.0 j.1.0 j.1.1.0 accepted))

module _ (l : Loading) (m t : List ℕ) (kept size : ℕ) (e : Bool) (x : Result ConvertOutcome ImageError) (j : Loading) (m_now u : List ℕ) (h : kept ≤ size)
    (g : AcceptedWith (take kept t) (as_loading l m) (waiting kept size t)) (w : PieceConverted l m t kept size e x j m_now u) where
  still_accepts : (n : ℕ) → x ≡ Ok (More n) → AcceptedWith (take n u) (as_loading j m_now) (waiting n size u)
  unfolding AcceptedWith PieceJudged JudgedAs BufferAfter PieceWithin
  still_accepts n o rest d k b a =
      let same = rw o at w.buffer_after in
      let p = rw o at w.outcome_within in
      let judged = rw o at (w.judged rest (λ f. absurd (true≢false (sym f ∙ p.0)))) in
      ap (λ xs. Image.stored_image (take n xs ++ (waiting n size xs ++ rest))) same
      ∙ ap Image.stored_image (parts_join n size t rest p.2 ∙ sym (parts_join kept size t rest h))
      ∙ g rest d k b (judged ∙ ap (λ xs. Image.image_after (as_loading j m_now) (waiting n size xs ++ rest)) (sym same) ∙ a)

  goes_on : Goes_on l m t kept size e x j m_now u
  unfolding PieceJudged
  goes_on =
      record {
        converts =
            λ rest z.
            by_outcome (as_loading l m) t kept size e (as_loading j m_now) u h g rest z x (w.judged rest z) w.buffer_after w.outcome_within;
        accepts = still_accepts;
      }

pub pieces_convert : PiecesConvert
pieces_convert = goes_on

pub nothing_accepted : NothingAccepted
unfolding AcceptedWith Image.stored_image
nothing_accepted bs rest d m b a = a

pub reading_accepts : ReadingAccepts
unfolding AcceptedWith
reading_accepts kept bs new l g rest d m b a =
    ap (λ xs. Image.stored_image (kept ++ xs)) (append_assoc bs new rest) ∙ g (new ++ rest) d m b (ap (Image.image_after l) (sym (append_assoc bs new rest)) ∙ a)
