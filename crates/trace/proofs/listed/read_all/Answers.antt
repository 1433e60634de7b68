-- All that is left at the first record is collected.
use Rattle.std.proofs.Common.{◌≡◌, ℕ, ◌+◌, ◌*◌, ◌<◌, length, get_or, vec_items, Ok, refl, sym, ap, ◌∙◌, arith}
use Rattle.std.proofs.lemmas.Iterator.{items_from_collect}
use Rattle.std.proofs.lemmas.Iterator.Consumers.{YieldsList-from_first}
use Rattle.std.proofs.lemmas.List.FromFn.{fill_by_all}
use Rattle.trace.specs.declared.record.Entry.{Entry}
use Rattle.trace.specs.Format.{entry_at, content_at, record_count}
use Rattle.trace.specs.Left.{entries_from, entries_left}
use Rattle.trace.proofs.Codec.{content_at_own}
use Rattle.trace.proofs.Left.{left_length, left_places}
use Rattle.trace.proofs.listed.read_all.Goals as goal

pub returns : goal.returns
returns c =
    let b = c.args.bytes.now in
    let all : vec_items c.in_ok-entries.entries ≡ entries_left c.new.result =
    items_from_collect {E = Unit {0}} (Ok c.in_ok-entries.entries) c.in_ok-entries.ensures.ran (YieldsList-from_first (λ x. x) entries_left (entries_left c.new.result) refl) in
    let same : vec_items c.in_ok-entries.entries ≡ entries_from b 2 (record_count b) = rw (c.new.ensures.bytes, c.new.ensures.start) at all in
    let count : length (vec_items c.in_ok-entries.entries) ≡ record_count b = ap length same ∙ left_length b 2 (record_count b) in
    let places : (k : ℕ) (d : Entry) → k < record_count b → get_or (vec_items c.in_ok-entries.entries) k d ≡ entry_at b (2 + 12 * k) =
    λ k d h. ap (λ l. get_or l k d) same ∙ left_places b 2 (record_count b) k d h in
    record {
      passed = sym c.in_ok-frames.ensures;
      count = count;
      places = places;
      whole = fill_by_all (λ k. entry_at b (2 + 12 * k)) (vec_items c.in_ok-entries.entries) (record_count b) (entry_at b 2) count (λ k. places k (entry_at b 2));
      own = λ k h. content_at_own (content_at b (2 + 12 * k)) b (2 + 12 * k) (λ i. omega (arith, c.type_inv.bytes i)) refl;
    }
