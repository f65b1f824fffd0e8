-- A run is stored as its elements would be one by one.
use Rattle.std.proofs.Common.{◌≡◌, ◌<◌, ◌+◌, ◌∙◌, ap, length, length-append, arith, rules}
use Rattle.std.specs.Slice.Iter.{chunks_rest}
use Rattle.history.proofs.Laws.{after_append, none_left}
use Rattle.history.proofs.store.Goals as goal

pub loop-run-init : goal.loop-run-init
loop-run-init c =
    let split = c.split_at.ensures in
    let rest : chunks_rest c.into_iter-run-iterator.result ≡ c.split_at.result.1.now = search rules in
    record {
      size = search rules;
      place = search rules;
      within = search rules;
      starts = search rules;
      held = rw (c.store_run-newest.ensures.result_after, rest, ← after_append, ← split.by_index.0);
    }

pub loop-run-preserved : goal.loop-run-preserved
loop-run-preserved c =
    let i = c.loop-run.invariant in
    let s = c.in-Some.ensures.steps in
    let run = c.in-Some.run'.now in
    let rest = chunks_rest c.next-in-loop-run.new.self in
    let stored = c.store_run-newest-in-loop-run.ensures in
    let all : length (chunks_rest c.loop-run.run-iterator) ≡ length run + length rest = ap length s.1.0 ∙ length-append run rest in
    record {
      size = search rules;
      place = omega (arith, all, i.place, stored.value);
      within = search rules;
      starts = λ (k : 0 < length rest). omega (arith, all, k, i.starts s.1.2, i.size, s.1.1, stored.value);
      held = rw (stored.result_after, ← after_append, ← s.1.0) i.held;
    }

pub returns-clause-held : goal.returns-clause-held
returns-clause-held c = none_left _ _ (chunks_rest c.loop-run.run-iterator) (search rules) c.loop-run.invariant.held
