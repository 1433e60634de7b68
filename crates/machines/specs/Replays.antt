-- What the program prints of a file: three blocks that agree, or the refusal of the file. Assumes nothing.
use Rattle.std.specs.Prelude.{◌≡◌, ℕ, List, ◌++◌, Ok, Err, codes, Result}
use Rattle.refusal.specs.declared.file.FileRefusal.{FileRefusal}
use Rattle.trace.specs.declared.record.Entry.{Entry}
use Rattle.trace.specs.Words.{refused_text}
use Rattle.rules.specs.Laws.{Agree}
use Rattle.replays.specs.Replayed.{Replayed}

-- a block each for the two boards and the pile; each run keeps the law, and the runs agree after each call
pub record Blocks (frames : ℕ) (entries : List Entry) (text : List ℕ) : Type 0 where
  pub first : List ℕ
  pub second : List ℕ
  pub third : List ℕ
  pub whole : text ≡ (first ++ second) ++ third
  pub radix : Replayed frames entries (codes "x86-64") first
  pub hashed : Replayed frames entries (codes "powerpc") second
  pub pile : Replayed frames entries (codes "pile") third
  pub boards_agree : Agree radix.law.trail.history hashed.law.trail.history
  pub pile_agrees : Agree radix.law.trail.history pile.law.trail.history

abbrev pub ReplayText : Result ℕ FileRefusal → List Entry → List ℕ → Type 0
ReplayText (Err e) entries text = text ≡ refused_text e
ReplayText (Ok frames) entries text = Blocks frames entries text
