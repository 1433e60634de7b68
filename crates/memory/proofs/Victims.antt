-- Every frame is in use, and the page of one goes: its position in the queue. Assumes nothing.
use Rattle.std.proofs.Common.{◌≡◌, ℕ, ◌<◌, ◌≤◌, length, get_or, vec_items, vec_len, Some, None, Err, Option, Result, refl, arith}
use Rattle.std.specs.Option.{ok_or}
use Rattle.pmap.specs.Meaning.{View}
use Rattle.rules.specs.Lists.{place}
use Rattle.rules.specs.State.{lie}
use Rattle.rules.specs.Refusals.{free}
use Rattle.rules.specs.Paging.{owner}
use Rattle.rules.specs.Good.{Good}
use Rattle.tables.proofs.Positions.{place_inside}
use Rattle.memory_meaning.proofs.Bringing.{victim_low, victim_owner}
use Rattle.memory.specs.declared.parts.Parts.{Parts}
use Rattle.memory.specs.Whole.{seen, state}

-- no page can go
pub none_left : {T E : Type 0} (o : Option T) (e x : E) (r : Result T E) → r ≡ ok_or o e → r ≡ Err x → (o ≡ None) × (x ≡ e)
none_left None e x r is got = (refl, cc)
none_left (Some y) e x r is got = cc

module _ {P : Type 0} (view : P → View) (m : Parts P) (x frames used : ℕ) (from : frames ≡ m.tables.frames) (len : used ≡ vec_len m.tables.queue) (full : frames ≤ used) where
  pub all_used : m.tables.frames ≤ length (vec_items m.tables.queue)
  all_used = omega (arith, from, len, full, m.tables.queue.ok.0)

  module _ (good : Good (state view m)) (low : x < 2048) (absent : lie (state view m) x ≡ None) (at : ℕ) (here : place (free (vec_items m.tables.wired)) (vec_items m.tables.queue) ≡ Some at) where
    pub inside : at < vec_len m.tables.queue
    inside = omega (arith, place_inside (free (vec_items m.tables.wired)) (vec_items m.tables.queue) at here, m.tables.queue.ok.0)

    pub frame_low : get_or (vec_items m.tables.queue) at 0 < 256
    frame_low = victim_low (seen view m) (state view m) x good low absent all_used at here

    pub owned_low : owner (state view m) (get_or (vec_items m.tables.queue) at 0) < 2048
    owned_low = victim_owner (seen view m) (state view m) x good low absent all_used at here
