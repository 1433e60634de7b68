-- Laws of the hash: proofs cite these, and not the definitions' text. The law of VSID stands here alone.
use Rattle.std.proofs.lemmas.Bool.Decides.{nat_tests}
use Rattle.std.proofs.Common.{◌≡◌, ℕ, ◌+◌, ◌-◌, ◌*◌, ◌/◌, ◌%◌, ◌<◌, Bool, true, false, cond, eqb, sym, ap, ◌∙◌, arith}
use lib.Bits.{bit_xor, bit_and, and_mask, xor_mod, xor_assoc, xor_comm, xor_self, xor_zero_r}
use Rattle.powerpc_words.specs.Fields.{first_word}
use Rattle.powerpc_words.specs.Hashing.{vsid, segment_of, index_of, hash, group, entry_word}

-- the space and the segment of a VSID
unfoldable pub vsid_space : ℕ → ℕ
vsid_space v = v / 16

unfoldable pub vsid_segment : ℕ → ℕ
vsid_segment v = v % 16

pub vsid_space_is : (space segment : ℕ) → space < 4 → segment < 4 → vsid_space (vsid space segment) ≡ space
unfolding vsid vsid_space
vsid_space_is space segment s n = omega arith

pub vsid_segment_is : (space segment : ℕ) → space < 4 → segment < 4 → vsid_segment (vsid space segment) ≡ segment
unfolding vsid vsid_segment
vsid_segment_is space segment s n = omega arith

-- VSID has 24 bits
pub vsid_below : (space page : ℕ) → space < 4 → page < 262144 → vsid space (segment_of page) < 16777216
unfolding vsid
vsid_below space page s p = omega arith

pub hash_below : (space page : ℕ) → hash space page < 1024
unfolding hash
hash_below space page = omega arith

pub group_below : (space page : ℕ) (side : Bool) → group space page side < 1024
unfolding group
group_below space page false = hash_below space page
group_below space page true = omega arith

-- the hash by the mask of ten bits
pub hash_is : (space page v : ℕ) → v ≡ vsid space (segment_of page) → bit_and (bit_xor v (index_of page)) 1023 ≡ hash space page
unfolding hash
hash_is space page v e = and_mask (bit_xor v (index_of page)) 10 ∙ ap (λ x. bit_xor x (index_of page) % 1024) e

-- ---- a place by its first word and its group
-- an entry in use has a first word above zero
pub entry_above : (space page : ℕ) (side : Bool) → 0 < entry_word space page side
unfolding entry_word
entry_above space page side = omega arith

-- the two groups of a place are different
pub groups_apart : (space page : ℕ) → group space page false ≡ group space page true → ⊥
unfolding group
groups_apart space page e = omega (arith, hash_below space page)

abbrev vsid_in : ℕ → ℕ
vsid_in w = w / 128 % 16777216

abbrev hash_in : ℕ → ℕ → ℕ
hash_in k w = cond (eqb (w / 64 % 2) 1) (1023 - k / 8) (k / 8)

unfoldable pub space_in : ℕ → ℕ
space_in w = vsid_space (vsid_in w)

unfoldable pub page_in : ℕ → ℕ → ℕ
page_in k w = vsid_segment (vsid_in w) * 65536 + w % 64 * 1024 + bit_xor (hash_in k w) (vsid_in w) % 1024

-- xor with VSID undoes itself
unhash : (v i : ℕ) → bit_xor (bit_xor v i % 1024) v % 1024 ≡ i % 1024
unhash v i =
    let inner : bit_xor v i % 1024 % 1024 ≡ bit_xor v i % 1024 = omega arith in
    xor_mod (bit_xor v i % 1024) v 10
    ∙ ap (λ x. bit_xor x (v % 1024)) inner
    ∙ sym (xor_mod (bit_xor v i) v 10)
    ∙ ap (λ x. x % 1024) (ap (λ x. bit_xor x v) (xor_comm v i) ∙ xor_assoc i v v ∙ ap (bit_xor i) (xor_self v) ∙ xor_zero_r i)

-- the fields of a first word
module _ (v h a : ℕ) (v_fits : v < 16777216) (h_fits : h < 2) (a_fits : a < 64) where
  vsid_field : vsid_in (first_word v h a) ≡ v
  vsid_field = omega arith

  side_field : first_word v h a / 64 % 2 ≡ h
  side_field = omega arith

  api_field : first_word v h a % 64 ≡ a
  api_field = omega arith

module _ (space page : ℕ) (side : Bool) (s_fits : space < 4) (p_fits : page < 262144) where
  abbrev v : ℕ
  v = vsid space (segment_of page)

  abbrev h : ℕ
  h = cond side 1 0

  abbrev a : ℕ
  a = index_of page / 1024

  h_fits : h < 2
  h_fits = grind (arith, nat_tests)

  a_fits : a < 64
  a_fits = omega arith

  v_fits : v < 16777216
  v_fits = vsid_below space page s_fits p_fits

  pub entry_space : space_in (entry_word space page side) ≡ space
  unfolding space_in entry_word
  entry_space = grind (arith, nat_tests, vsid_field, v_fits, h_fits, a_fits, vsid_space_is)

  entry_hash : (k : ℕ) → k / 8 ≡ group space page side → hash_in k (entry_word space page side) ≡ hash space page
  unfolding entry_word group
  entry_hash k e = grind (arith, nat_tests, side_field, v_fits, a_fits, hash_below)

  pub entry_page : (k : ℕ) → k / 8 ≡ group space page side → page_in k (entry_word space page side) ≡ page
  unfolding page_in entry_word hash
  entry_page k e = grind (arith, nat_tests, entry_hash, vsid_field, v_fits, h_fits, a_fits, unhash, vsid_segment_is, api_field)
