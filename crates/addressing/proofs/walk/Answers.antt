-- `walk` meets its contract. Assumes nothing.
use Rattle.std.proofs.Common.{◌≡◌, Ok, Err, arith, rules}
use Rattle.std.proofs.lemmas.Result.{err_from_is_err_and}
use Rattle.addressing.proofs.MapErrLaws.{was_ok, was_err}
use Rattle.addressing.proofs.WalkLaws.{at_start, right_within, word_inside, none_left, refused, goes_on, ends}
use Rattle.addressing.proofs.walk.Goals as goal

pub returns-in_err-kept : goal.returns-in_err-kept
returns-in_err-kept c =
    let h = was_err _ _ _ c.map_err.ensures.cases _ c.in_err-kept.was in
    let e : c.in_err-kept.field-0.0 ≡ record { fault = h.0; pointer = c.tpr-t.result; read = c.loop-read.read } = search rules in
    let p = err_from_is_err_and c.from_residual.result c.from_residual.ensures.1 in
    let was : c.ask.result ≡ Err h.0 = h.1 in
    let b = c.requires in
    rw (p.1, p.2, e)
    (record {
      same =
          refused _ _ _ _ _ c.tpr-t.ensures.0 _ c.loop-read.read (omega arith) c.loop-read.invariant.0 _ (rw was at c.ask.ensures) _
          (at_start _ _ _ _ _ _ c.encode-word.ensures b.ring_within b.segment_within b.word_within);
      within = tt;
    })

pub read-word-requires : goal.read-word-requires
read-word-requires c =
    let was : c.ask.result ≡ Ok c.in_ok-kept.kept = was_ok _ _ _ c.map_err.ensures.cases _ c.in_ok-kept.was in
    let k = rw was at c.ask.ensures in
    (right_within _ _ _ _ k.0, word_inside _ _ k.1)

pub returns-then-not-is_indirect : goal.returns-then-not-is_indirect
returns-then-not-is_indirect c =
    let b = c.requires in
    let was : c.ask.result ≡ Ok c.in_ok-kept.kept = was_ok _ _ _ c.map_err.ensures.cases _ c.in_ok-kept.was in
    let k = rw was at c.ask.ensures in
    record {
      same =
          ends _ _ _ _ _ c.tpr-t.ensures.0 _ c.loop-read.read (omega arith) c.loop-read.invariant.0 _ k.0 k.1 _ _ c.read-word.ensures c.next_ring-ring.ensures.0 _
          c.is_indirect.ensures c.if-not-is_indirect.true _ c.tpr.ensures.0 _
          (at_start _ _ _ _ _ _ c.encode-word.ensures b.ring_within b.segment_within b.word_within);
      within = c.tpr.ensures.1;
    }

pub loop-read-preserved : goal.loop-read-preserved
loop-read-preserved c =
    let was : c.ask.result ≡ Ok c.in_ok-kept.kept = was_ok _ _ _ c.map_err.ensures.cases _ c.in_ok-kept.was in
    let k = rw was at c.ask.ensures in (
      goes_on _ _ _ _ _ c.tpr-t.ensures.0 _ c.loop-read.read (omega arith) c.loop-read.invariant.0 _ k.0 k.1 _ _ c.read-word.ensures c.next_ring-ring.ensures.0 _
          c.is_indirect.ensures c.if-not-is_indirect.false,
      c.next_ring-ring.ensures.1,
      k.2,
    )

pub returns : goal.returns
returns c =
    let b = c.requires in
    record {
      same = none_left _ _ _ _ _ c.tpr-2.ensures.0 _ c.loop-read.read (omega arith) c.loop-read.invariant.0 _ (at_start _ _ _ _ _ _ c.encode-word.ensures b.ring_within b.segment_within b.word_within);
      within = tt;
    }
