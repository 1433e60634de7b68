-- Reads, writes and wires as the rules have them. Assumes nothing.
use Rattle.std.proofs.Common.{◌≡◌, ℕ, ◌<◌, ◌≤◌, Bool, true, false, not, ◌||◌, eqb, List, [], ◌∷◌, ◌++◌, length, get_or, is_some, Some, None, Ok, Err, Option, sym, refl, ap, ◌∙◌, subst, ⊎_elim, arith}
use mathlib.Core.Path.{fun_ext}
use Rattle.std.proofs.lemmas.Bool.{cases_Bool, cond-true, cond-false, le-leb, lt-leb, both_ways}
use Rattle.refusal.specs.declared.memory.MemoryRefusal.{MemoryRefusal}
use Rattle.refusal.specs.declared.memory.MemoryRefusal.TheVariants.{NoRegion, Wired as WiredRefusal, WiredFull}
use Rattle.refusal.specs.declared.pmap.PmapRefusal.{PmapRefusal}
use Rattle.refusal.specs.declared.pmap.PmapRefusal.TheVariants.{Range as PmapRange, WiredFull as PmapFull}
use Rattle.pmap.specs.Meaning.{View, Mapping, PutForgetting, Stays, Crowded, EnterRefused, is_wired, marked}
use Rattle.pmap.proofs.Crowds.{pigeonhole}
use Rattle.pmap.specs.Ranges.{fits_place, fits_entry}
use Rattle.calls.specs.declared.Call.{Call}
use Rattle.calls.specs.declared.Call.TheVariants.{Read, Write, Wire}
use Rattle.rules.specs.declared.answer.Answer.TheVariants.{Read as ReadAnswer, Wrote, Wired}
use Rattle.rules.specs.declared.answer.Evicted.{Evicted}
use Rattle.rules.specs.declared.answer.Report.{Report}
use Rattle.rules.specs.declared.region.Region.{Region}
use Rattle.rules.specs.declared.region.WiredPlace.{WiredPlace}
use Rattle.rules.specs.Lists.{any, place}
use Rattle.rules.specs.State.{State, lie, page_in}
use Rattle.rules.specs.Refusals.{cover, is_place, call_refusal, wire_refusal, wants_frame}
use Rattle.rules.specs.Paging.{resident, word_in, written_to}
use Rattle.rules.specs.Rules.{page_at, report_of, wiring_of, with_wired, wired_to, reply_by, moved_by}
use Rattle.rules.specs.Good.{Good}
use Rattle.rules.proofs.Lists.{place_some, placed}
use Rattle.rules.proofs.Loads.{used_low}
use Rattle.rules.proofs.GoodKept.{good_resident}
use Rattle.rules.proofs.Accepted.{read_passed, write_passed}
use Rattle.tables.specs.Held.{with_dirty, word_written}
use Rattle.memory_meaning.specs.Matches.{Matches}
use Rattle.memory_meaning.specs.Ready.{serves, hits, Brings, evictee, dropped_by, is_none}
use Rattle.memory_meaning.specs.Leaves.{Leaves, Serves, mapping_for}
use Rattle.memory_meaning.specs.Reaching.{Reaches, Unmoved, access_refusal}
use Rattle.memory_meaning.proofs.Firsts.{place_test}
use Rattle.memory_meaning.proofs.Reached.{page_at_is}
use Rattle.memory_meaning.proofs.Serving.{accepted, in_range}

-- a read leaves the modified frames as they are
marked_read : (d : ℕ → Bool) (f : ℕ) → marked d false f ≡ d
marked_read d f = fun_ext λ g. or_false (d g)
  where
    or_false : (b : Bool) → (b || false) ≡ b
    or_false true = refl
    or_false false = refl

module _ (v w : View) (s t : State) (a p : ℕ) where
  pub read_served : (f word : ℕ) (report : Report) → call_refusal s (Read a p) ≡ None → Reaches v w s t a p false f report → word ≡ get_or t.words f 0 → Serves v w s t (Read a p) (Ok (ReadAnswer (record { report = report; word = word })))
  read_served f word report passes r is =
      let x = page_at s a p in
      let same : t ≡ resident s x = r.state ∙ ap (with_dirty (resident s x)) (marked_read (resident s x).dirty f) in
      let base = accepted v w s t (Read a p) passes same r.view in
      record {
        answer =
            ap (λ z. Ok (ReadAnswer (record { report = z; word = word }))) r.reported
            ∙ ap (λ z. Ok (ReadAnswer (record { report = report_of s x (serves (v.held a p) false); word = z })))
            (is ∙ ap (λ z. get_or z.words f 0) same ∙ sym (ap (word_in (resident s x)) r.lies))
            ∙ base.answer;
        state = base.state;
        view = base.view;
      }

  pub write_served : (u : State) (f word : ℕ) (report : Report) → call_refusal s (Write a p word) ≡ None → Reaches v w s t a p true f report → u ≡ word_written t f word → Serves v w s u (Write a p word) (Ok (Wrote report))
  write_served u f word report passes r is =
      let x = page_at s a p in
      let base = accepted v w s u (Write a p word) passes (is ∙ ap (λ z. word_written z f word) r.state ∙ sym (ap (written_to (resident s x) word) r.lies)) r.view in
      record { answer = ap (λ z. Ok (Wrote z)) r.reported ∙ base.answer; state = base.state; view = base.view }

-- a refused call that moved nothing
pub refused_unmoved : (v w : View) (s t : State) (c : Call) (e : MemoryRefusal) → call_refusal s c ≡ Some e → Unmoved v w s t → Serves v w s t c (Err e)
refused_unmoved v w s t c e is un = record {
  answer = sym (ap (reply_by s c (hits v c)) is);
  state = un.state ∙ sym (ap (moved_by s c) is);
  view = subst (Leaves v w s c) (sym is) un.held;
}

-- why a wire is refused
module _ (s : State) (a p : ℕ) (fits : fits_place a p ≡ true) where
  pub wire_nowhere : cover s.regions a p ≡ None → call_refusal s (Wire a p) ≡ Some NoRegion
  wire_nowhere e = in_range (fits_place a p) _ fits ∙ ap (wire_refusal s a p) e

  module _ (r : Region) (cov : cover s.regions a p ≡ Some r) where
    pub wire_again : any (is_place a p) s.wired ≡ true → call_refusal s (Wire a p) ≡ Some WiredRefusal
    wire_again e = in_range (fits_place a p) _ fits ∙ ap (wire_refusal s a p) cov ∙ cond-true _ _ _ e

    module _ (new : any (is_place a p) s.wired ≡ false) where
      pub wire_full : 8 ≤ length s.wired → call_refusal s (Wire a p) ≡ Some WiredFull
      wire_full e = in_range (fits_place a p) _ fits ∙ ap (wire_refusal s a p) cov ∙ cond-false _ _ _ new ∙ cond-true _ _ _ (le-leb _ _ e)

      pub wire_passes : length s.wired < 8 → call_refusal s (Wire a p) ≡ wants_frame s (lie s (page_in r p))
      wire_passes e = in_range (fits_place a p) _ fits ∙ ap (wire_refusal s a p) cov ∙ cond-false _ _ _ new ∙ cond-false _ _ _ (lt-leb _ _ e)

      pub wire_served : (v x w : View) (t u : State) (f : ℕ) (loaded : Bool) (out : Option Evicted) → length s.wired < 8 → Brings v x s t (page_in r p) f loaded out → t.dirty ≡ x.modified → PutForgetting x w a p (Some (f, r.protection, true)) x.modified → u ≡ with_wired (with_dirty t w.modified) (t.wired ++ (record { space = a; page = p; frame = f } ∷ [])) → Serves v w s u (Wire a p) (Ok (Wired (record { loaded = loaded; evicted = out })))
      wire_served v x w t u f loaded out few b dirty put is =
          let at = page_at_is s a p r cov in
          let y = page_at s a p in
          let lies : lie (resident s y) y ≡ Some f = ap (λ z. lie (resident s z) z) at ∙ b.lies in
          let passes : call_refusal s (Wire a p) ≡ None = wire_passes few ∙ b.room in
          let base = accepted v w s u (Wire a p) passes
          (is
          ∙ ap (λ z. with_wired (with_dirty t z) (t.wired ++ (record { space = a; page = p; frame = f } ∷ []))) (put.marked ∙ sym dirty)
          ∙ ap (λ z. with_wired z (z.wired ++ (record { space = a; page = p; frame = f } ∷ []))) (b.state ∙ ap (resident s) (sym at))
          ∙ sym (ap (wired_to (resident s y) a p) lies))
          (record {
            here = put.here ∙ sym (ap (λ z. mapping_for z (lie (resident s y) y) true) cov ∙ ap (λ z. mapping_for (Some r) z true) lies);
            others = λ c d far. subst (λ z. Stays z (w.held c d)) (b.held c d ∙ ap (λ z. dropped_by (evictee s (lie s z)) (v.held c d)) (sym at)) (put.others c d far);
          }) in
          record {
            answer =
                ap (λ z. Ok (Wired (record { loaded = z; evicted = out }))) (b.told ∙ none_not (lie s (page_in r p)))
                ∙ ap (λ z. Ok (Wired (record { loaded = not (is_some (lie s (page_in r p))); evicted = z }))) b.out
                ∙ ap (λ z. Ok (Wired (wiring_of s z))) (sym at)
                ∙ base.answer;
            state = base.state;
            view = base.view;
          }
        where
          none_not : (o : Option ℕ) → is_none o ≡ not (is_some o)
          none_not None = refl
          none_not (Some f) = refl

-- fewer than eight places are wired, so eight others are not
place_of : Option ℕ → ℕ
place_of None = 0
place_of (Some i) = i

pub not_crowded : (h k : ℕ → ℕ → Option Mapping) (rs : List Region) (ls : List (Option ℕ)) (ws : List WiredPlace) (a p : ℕ) → Matches h rs ls ws → length ws < 8 → ((c d : ℕ) → is_wired (k c d) ≡ true → is_wired (h c d) ≡ true) → Crowded k a p → ⊥
unfolding place_of
not_crowded h k rs ls ws a p fits few was c =
    let le = pigeonhole (length ws) 8 pick inside apart in omega arith
  where
    listed : (i : ℕ) → i < 8 → any (is_place (c.space i) (c.page i)) ws ≡ true
    listed i l = fits.listed (c.space i) (c.page i) (was (c.space i) (c.page i) (c.wired i l))

    pick : ℕ → ℕ
    pick i = place_of (place (is_place (c.space i) (c.page i)) ws)

    is : (i : ℕ) (l : i < 8) → place (is_place (c.space i) (c.page i)) ws ≡ Some (pick i)
    is i l = let q = place_some (is_place (c.space i) (c.page i)) ws (listed i l) in q.1 ∙ ap Some (sym (ap place_of q.1))

    inside : (i : ℕ) → i < 8 → pick i < length ws
    inside i l = (placed (is_place (c.space i) (c.page i)) ws (pick i) (is i l)).inside

    none_place : WiredPlace
    none_place = record { space = 0; page = 0; frame = 0 }

    at : (i : ℕ) (l : i < 8) → ((get_or ws (pick i) none_place).space ≡ c.space i) × ((get_or ws (pick i) none_place).page ≡ c.page i)
    at i l = place_test (c.space i) (c.page i) (get_or ws (pick i) none_place) ((placed (is_place (c.space i) (c.page i)) ws (pick i) (is i l)).passes none_place)

    apart : (i j : ℕ) → i < 8 → j < 8 → pick i ≡ pick j → i ≡ j
    apart i j l m e =
        let x = at i l in
        let y = at j m in
        c.apart i j l m
        (sym x.0 ∙ ap (λ z. (get_or ws z none_place).space) e ∙ y.0)
        (sym x.1 ∙ ap (λ z. (get_or ws z none_place).page) e ∙ y.1)

pub dropped_wired_is : (o : Option ℕ) (m : Option Mapping) → is_wired (dropped_by o m) ≡ true → is_wired m ≡ true
dropped_wired_is None m e = e
dropped_wired_is (Some f) None e = e
dropped_wired_is (Some f) (Some m) e = ⊎_elim
    (λ (t : eqb m.0 f ≡ true). absurd (both_ways false refl (sym (ap is_wired (cond-true _ _ _ t)) ∙ e)))
    (λ (t : eqb m.0 f ≡ false). sym (ap is_wired (cond-false _ _ _ t)) ∙ e)
    (cases_Bool (eqb m.0 f))

-- a wired enter with fewer than eight places wired is not refused
pub wired_enter_passes : (x : View) (a p f q : ℕ) (e : PmapRefusal) → fits_entry a p f q ≡ true → (Crowded x.held a p → ⊥) → EnterRefused x a p f q true e → ⊥
wired_enter_passes x a p f q PmapRange fits room no_way = both_ways _ no_way fits
wired_enter_passes x a p f q PmapFull fits room no_way = room no_way.2

-- the frame that an access came to is a frame
pub reached_low : (v w : View) (s t : State) (a p f : ℕ) (write : Bool) (report : Report) → Good s → access_refusal s a p write ≡ None → Reaches v w s t a p write f report → f < 256
reached_low v w s t a p f write report good passes r =
    let low = page_low write passes in
    let t = good_resident s (page_at s a p) good low r.room in
    used_low (resident s (page_at s a p)) f t (t.lies_used (page_at s a p) f r.lies)
  where
    page_low : (write : Bool) → access_refusal s a p write ≡ None → page_at s a p < 2048
    page_low true e = (write_passed s a p 0 good e).low
    page_low false e = (read_passed s a p good e).low
