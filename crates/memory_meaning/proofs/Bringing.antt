-- An object page is brought in: what the steps come to. Assumes nothing.
use Rattle.std.proofs.Common.{◌≡◌, ℕ, ◌<◌, ◌≤◌, true, false, not, eqb, length, get_or, Some, None, sym, refl, ap, ◌∙◌, arith}
use Rattle.std.proofs.lemmas.Bool.{cond-true, cond-false, lt-ltb, le-ltb, or_left, or_right, or_from}
use Rattle.refusal.specs.declared.memory.MemoryRefusal.TheVariants.{NoFrame}
use Rattle.pmap.specs.Meaning.{View}
use Rattle.rules.specs.declared.answer.Evicted.{Evicted}
use Rattle.rules.specs.Lists.{place, without}
use Rattle.rules.specs.State.{State, lie}
use Rattle.rules.specs.Refusals.{free, has_frame, wants_frame}
use Rattle.rules.specs.Paging.{load, evict, victim, unused, resident, resident_by, evicted_by, replaced, replaced_page, owner}
use Rattle.rules.specs.Good.{Good, in_use}
use Rattle.rules.proofs.Lists.{first_passes, length_without}
use Rattle.rules.proofs.Queues.{first_has}
use Rattle.rules.proofs.Loads.{owner_low, used_low, ready_unused, ready_evicted, lie_loaded, lie_evict}
use Rattle.rules.proofs.GoodKept.{brings}
use Rattle.tables.proofs.Positions.{place_first, place_any, nowhere_any}
use Rattle.memory_meaning.specs.Ready.{Brings, NoRoom, evictee, dropped_by, is_none}
use Rattle.memory_meaning.specs.Evicting.{Evicts}

module _ (v : View) (s : State) (x : ℕ) (good : Good s) where
  -- the page is resident already
  pub brings_here : (f : ℕ) → lie s x ≡ Some f → Brings v v s s x f false None
  brings_here f is = record {
    room = ap (wants_frame s) is;
    state = sym (ap (resident_by s x) is);
    lies = ap (λ z. lie (resident_by s x z) x) is ∙ is;
    told = sym (ap is_none is);
    out = sym (ap (evicted_by s) is);
    held = λ a b. sym (ap (λ z. dropped_by (evictee s z) (v.held a b)) is);
  }

  module _ (low : x < 2048) (absent : lie s x ≡ None) where
    room_is : has_frame s ≡ true → wants_frame s (lie s x) ≡ None
    room_is has = ap (wants_frame s) absent ∙ cond-false _ _ _ (ap not has)

    -- into an unused frame
    pub brings_unused : (t : State) → length s.queue < s.frames → t ≡ load s x (length s.queue) → Brings v v s t x (length s.queue) true None
    brings_unused t room is =
        let yes : unused s ≡ true = lt-ltb _ _ room in
        let end : resident s x ≡ load s x (length s.queue) = ap (resident_by s x) absent ∙ cond-true _ _ _ yes in
        record {
          room = room_is (or_left _ _ yes);
          state = is ∙ sym end;
          lies = ap (λ z. lie z x) end ∙ lie_loaded s x (length s.queue) (ready_unused s good room) low absent;
          told = sym (ap is_none absent);
          out = sym (ap (evicted_by s) absent ∙ cond-true _ _ _ yes);
          held = λ a b. sym (ap (λ z. dropped_by (evictee s z) (v.held a b)) absent ∙ ap (λ z. dropped_by z (v.held a b)) (cond-true _ _ _ yes));
        }

    module _ (full : s.frames ≤ length s.queue) where
      used_up : unused s ≡ false
      used_up = le-ltb _ _ full

      -- every frame is wired
      pub brings_none : place (free s.wired) s.queue ≡ None → NoRoom v v s s x NoFrame
      brings_none nowhere = record {
        told = ap (wants_frame s) absent ∙ cond-true _ _ _ (ap not (or_from _ _ used_up (nowhere_any (free s.wired) s.queue nowhere)));
        state = refl;
        held = λ a b. refl;
      }

      -- into the frame of the page that goes
      module _ (at : ℕ) (here : place (free s.wired) s.queue ≡ Some at) where
        victim_is : victim s ≡ Some (get_or s.queue at 0)
        victim_is = place_first (free s.wired) s.queue at 0 here

        pub victim_used : in_use s (get_or s.queue at 0) ≡ true
        victim_used = first_has (free s.wired) s.queue (get_or s.queue at 0) victim_is

        pub victim_low : get_or s.queue at 0 < 256
        victim_low = used_low s (get_or s.queue at 0) good victim_used

        pub victim_owner : owner s (get_or s.queue at 0) < 2048
        victim_owner = owner_low s (get_or s.queue at 0) good victim_used

        -- one frame less is in use
        pub less_used : length (without (eqb (get_or s.queue at 0)) s.queue) < 256
        less_used = omega (arith, length_without (eqb (get_or s.queue at 0)) s.queue victim_used, good.queue_few, good.frames_few)

        pub brings_victim : (w : View) (mid t : State) (out : Evicted) → Evicts v w s mid (get_or s.queue at 0) out → t ≡ load mid x (get_or s.queue at 0) → Brings v w s t x (get_or s.queue at 0) true (Some out)
        brings_victim w mid t out evicts is =
            let f = get_or s.queue at 0 in
            let room : wants_frame s (lie s x) ≡ None = room_is (or_right _ _ (place_any (free s.wired) s.queue at here)) in
            let end : resident s x ≡ load (evict s f) x f = ap (resident_by s x) absent ∙ cond-false _ _ _ used_up ∙ ap (replaced s x) victim_is in
            let b = brings s x good low room in
            record {
              room = room;
              state = is ∙ ap (λ z. load z x f) evicts.state ∙ sym end;
              lies = ap (λ z. lie z x) end ∙ lie_loaded (evict s f) x f (ready_evicted s f good victim_used (first_passes (free s.wired) s.queue f victim_is)) low gone;
              told = sym (ap is_none absent);
              out = ap Some evicts.told ∙ sym (ap (evicted_by s) absent ∙ cond-false _ _ _ used_up ∙ ap (replaced_page s) victim_is);
              held = λ a b. evicts.held a b ∙ sym (ap (λ z. dropped_by (evictee s z) (v.held a b)) absent ∙ ap (λ z. dropped_by z (v.held a b)) (cond-false _ _ _ used_up ∙ victim_is));
            }
          where
            other : x ≡ owner s (get_or s.queue at 0) → ⊥
            other e = let k = sym absent ∙ ap (lie s) e ∙ good.owner_lies (get_or s.queue at 0) victim_used in let z : ◌≡◌ {A = ℕ} 0 1 = cc in omega arith

            gone : lie (evict s (get_or s.queue at 0)) x ≡ None
            gone = lie_evict s (get_or s.queue at 0) good victim_used x other ∙ absent
