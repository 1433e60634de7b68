-- A walk's positions lie in the table. Assumes nothing.
use Rattle.std.specs.Prelude.{◌<◌, Some, None, Option}
use Rattle.x86_words.specs.declared.walk.Walk.{Walk}

pub record Inside (w : Walk) : Type 0 where
  pub root : w.root < 8192
  pub entry : w.entry < 8192
  pub directory : w.directory < 8192
  pub leaf : w.leaf < 8192

abbrev pub Within : Option Walk → Type 0
Within None = Unit {0}
Within (Some w) = Inside w
