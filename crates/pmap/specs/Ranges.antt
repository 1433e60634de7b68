-- The ranges of the numbers that a pmap call takes. Assumes nothing.
-- Spaces are 0 to 3, pages 0 to 262,143, frames 0 to 255; a protection is 1 (read) or 3 (read and write).
use Rattle.std.specs.Prelude.{ℕ, Bool, ◌&&◌, ◌||◌, ◌==◌, nat_lt}

abbrev pub fits_place : ℕ → ℕ → Bool
fits_place space page = nat_lt space 4 && nat_lt page 262144

abbrev pub fits_frame : ℕ → Bool
fits_frame frame = nat_lt frame 256

abbrev pub fits_protection : ℕ → Bool
fits_protection protection = protection == 1 || protection == 3

abbrev pub fits_entry : ℕ → ℕ → ℕ → ℕ → Bool
fits_entry space page frame protection = fits_place space page && (fits_frame frame && fits_protection protection)
