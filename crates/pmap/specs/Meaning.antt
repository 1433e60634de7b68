-- What a pmap holds, and what each of its calls does to that. Assumes nothing.
--
-- A pmap holds at each place (a space and a page) at most one mapping: a frame, a protection and a wired mark.
-- It also holds a set of modified frames. A pmap may forget: while it enters, unwires or hits at one place,
-- unwired mappings at other places may vanish. Which of them do is left free; nothing else is.
use Rattle.std.specs.Prelude.{◌≡◌, ℕ, ◌<◌, Bool, true, false, cond, not, ◌&&◌, ◌||◌, ◌⊎◌, Some, None, Option, Result, MatchResult, ◌==◌, ◌≢◌}
use Rattle.refusal.specs.declared.pmap.PmapRefusal.{PmapRefusal}
use Rattle.refusal.specs.declared.pmap.PmapRefusal.TheVariants.{Range, WiredFull}
use Rattle.pmap.specs.declared.access.Access.{Access}
use Rattle.pmap.specs.declared.access.Access.TheVariants.{Hit, Miss}
use Rattle.pmap.specs.Ranges.{fits_place, fits_frame, fits_entry}

-- a frame, a protection and a wired mark
abbrev pub Mapping : Type 0
Mapping = ℕ × ℕ × Bool

pub record View : Type 0 where
  pub held : ℕ → ℕ → Option Mapping
  pub modified : ℕ → Bool

abbrev pub is_wired : Option Mapping → Bool
is_wired None = false
is_wired (Some m) = m.2

-- (a, b) is another place than (s, p)
abbrev pub Elsewhere : ℕ → ℕ → ℕ → ℕ → Type 0
Elsewhere s p a b = a ≡ s → b ≢ p

-- a mapping stays as it is or, where it is not wired, vanishes
abbrev pub Stays : Option Mapping → Option Mapping → Type 0
Stays before after = (after ≡ before) ⊎ ((after ≡ None) × (is_wired before ≡ false))

-- nothing changes
pub record Same (v w : View) : Type 0 where
  pub held : (a b : ℕ) → w.held a b ≡ v.held a b
  pub marks : w.modified ≡ v.modified

-- the place comes to hold what is given, and all other places stay as they are
pub record Put (v w : View) (s p : ℕ) (m : Option Mapping) : Type 0 where
  pub here : w.held s p ≡ m
  pub others : (a b : ℕ) → Elsewhere s p a b → w.held a b ≡ v.held a b
  pub marks : w.modified ≡ v.modified

-- the place comes to hold what is given; unwired mappings elsewhere may vanish; the modified set is as given
pub record PutForgetting (v w : View) (s p : ℕ) (m : Option Mapping) (marks : ℕ → Bool) : Type 0 where
  pub here : w.held s p ≡ m
  pub others : (a b : ℕ) → Elsewhere s p a b → Stays (v.held a b) (w.held a b)
  pub marked : w.modified ≡ marks

-- eight different places other than (s, p), each with a wired mapping
pub record Crowded (held : ℕ → ℕ → Option Mapping) (s p : ℕ) : Type 0 where
  pub space : ℕ → ℕ
  pub page : ℕ → ℕ
  pub apart : (i j : ℕ) → i < 8 → j < 8 → space i ≡ space j → page i ≡ page j → i ≡ j
  pub elsewhere : (i : ℕ) → i < 8 → Elsewhere s p (space i) (page i)
  pub wired : (i : ℕ) → i < 8 → is_wired (held (space i) (page i)) ≡ true

-- clear: no mapping and no modified frame is left
pub record Cleared (w : View) : Type 0 where
  pub held : (a b : ℕ) → w.held a b ≡ None
  pub marks : w.modified ≡ (λ _. false)

-- a call that names a place is refused exactly if the place is out of range, and then changes nothing
abbrev pub AtPlace : {U : Type 0} → View → View → ℕ → ℕ → Result U PmapRefusal → (U → Type 0) → Type 0
AtPlace v w s p r done =
    MatchResult r (λ u. (fits_place s p ≡ true) × done u) (λ e. (e ≡ Range) × (fits_place s p ≡ false) × Same v w)

-- a call that names a frame, likewise
abbrev pub AtFrame : {U : Type 0} → View → View → ℕ → Result U PmapRefusal → (U → Type 0) → Type 0
AtFrame v w f r done =
    MatchResult r (λ u. (fits_frame f ≡ true) × done u) (λ e. (e ≡ Range) × (fits_frame f ≡ false) × Same v w)

-- why an enter is refused: a number out of range, or a wired enter where eight other places are wired
abbrev pub EnterRefused : View → ℕ → ℕ → ℕ → ℕ → Bool → PmapRefusal → Type 0
EnterRefused v s p f q wired Range = fits_entry s p f q ≡ false
EnterRefused v s p f q wired WiredFull = (fits_entry s p f q ≡ true) × (wired ≡ true) × Crowded v.held s p

pub record EnterPasses (v : View) (s p f q : ℕ) (wired : Bool) : Type 0 where
  pub fits : fits_entry s p f q ≡ true
  pub room : wired ≡ true → Crowded v.held s p → ⊥

-- enter: the place holds exactly the given mapping
abbrev pub Enters : {U : Type 0} → View → View → ℕ → ℕ → ℕ → ℕ → Bool → Result U PmapRefusal → Type 0
Enters v w s p f q wired r =
    MatchResult r
    (λ _. EnterPasses v s p f q wired × PutForgetting v w s p (Some (f, q, wired)) v.modified)
    (λ e. EnterRefused v s p f q wired e × Same v w)

-- remove: the place holds nothing
abbrev pub Removes : {U : Type 0} → View → View → ℕ → ℕ → Result U PmapRefusal → Type 0
Removes v w s p r = AtPlace v w s p r (λ _. Put v w s p None)

-- lower: protection 3 becomes 1
abbrev pub lowered : Option Mapping → Option Mapping
lowered None = None
lowered (Some m) = Some (m.0, 1, m.2)

abbrev pub Lowers : {U : Type 0} → View → View → ℕ → ℕ → Result U PmapRefusal → Type 0
Lowers v w s p r = AtPlace v w s p r (λ _. Put v w s p (lowered (v.held s p)))

-- drop: every mapping of the frame goes
abbrev pub without : ℕ → Option Mapping → Option Mapping
without f None = None
without f (Some m) = cond (m.0 == f) None (Some m)

pub record Dropped (v w : View) (f : ℕ) : Type 0 where
  pub held : (a b : ℕ) → w.held a b ≡ without f (v.held a b)
  pub marks : w.modified ≡ v.modified

abbrev pub Drops : {U : Type 0} → View → View → ℕ → Result U PmapRefusal → Type 0
Drops v w f r = AtFrame v w f r (λ _. Dropped v w f)

-- unwire: the wired mark comes off; at an empty place nothing changes
abbrev pub Unwired : View → View → ℕ → ℕ → Option Mapping → Type 0
Unwired v w s p None = Same v w
Unwired v w s p (Some m) = PutForgetting v w s p (Some (m.0, m.1, false)) v.modified

abbrev pub Unwires : {U : Type 0} → View → View → ℕ → ℕ → Result U PmapRefusal → Type 0
Unwires v w s p r = AtPlace v w s p r (λ _. Unwired v w s p (v.held s p))

-- access: a hit exactly if a mapping is held whose protection allows the read or write
abbrev pub allows : ℕ → Bool → Bool
allows q write = not write || q == 3

abbrev pub answered : Option Mapping → Bool → Access
answered None write = Miss
answered (Some m) write = cond (allows m.1 write) (Hit m.0) Miss

-- the modified set after a hit in a frame
abbrev pub marked : (ℕ → Bool) → Bool → ℕ → ℕ → Bool
marked set write f g = set g || (write && g == f)

abbrev pub Accessed : View → View → ℕ → ℕ → Bool → Access → Type 0
Accessed v w s p write (Hit f) = PutForgetting v w s p (v.held s p) (marked v.modified write f)
Accessed v w s p write Miss = Same v w

abbrev pub Accesses : View → View → ℕ → ℕ → Bool → Result Access PmapRefusal → Type 0
Accesses v w s p write r =
    AtPlace v w s p r (λ a. (a ≡ answered (v.held s p) write) × Accessed v w s p write a)

-- find: what is held at the place
abbrev pub Finds : View → ℕ → ℕ → Result (Option Mapping) PmapRefusal → Type 0
Finds v s p r = AtPlace v v s p r (λ o. o ≡ v.held s p)

-- modified: whether the frame is in the set
abbrev pub Tells : View → ℕ → Result Bool PmapRefusal → Type 0
Tells v f r = AtFrame v v f r (λ b. b ≡ v.modified f)

-- clear-modified: the frame leaves the set
abbrev pub unmarked : (ℕ → Bool) → ℕ → ℕ → Bool
unmarked set f g = set g && not (g == f)

pub record Unmarked (v w : View) (f : ℕ) : Type 0 where
  pub held : (a b : ℕ) → w.held a b ≡ v.held a b
  pub marks : w.modified ≡ unmarked v.modified f

abbrev pub Unmarks : {U : Type 0} → View → View → ℕ → Result U PmapRefusal → Type 0
Unmarks v w f r = AtFrame v w f r (λ _. Unmarked v w f)
