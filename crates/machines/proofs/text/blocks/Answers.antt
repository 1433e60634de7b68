use Rattle.std.proofs.Common.{◌≡◌, ℕ, List, ◌++◌, vec_items, string_bytes, codes, ap, ◌∙◌, subst}
use Rattle.replays.specs.Replayed.{Replayed}
use Rattle.machines.proofs.Agreeing.{replays_agree}
use Rattle.machines.proofs.text.blocks.Goals as goal

joined : (one two three mid new p q : List ℕ) → mid ≡ one ++ p → p ≡ two → new ≡ mid ++ q → q ≡ three → new ≡ (one ++ two) ++ three
joined one two three mid new p q a b c d = c ∙ ap (λ z. z ++ q) (a ∙ ap (λ z. one ++ z) b) ∙ ap (λ z. (one ++ two) ++ z) d

pub returns : goal.returns
returns c =
    let trace = c.args.trace.now in
    let x = subst (λ n. Replayed trace.frames (vec_items trace.entries) n (string_bytes c.in_ok-text.text)) c.name.ensures c.in_ok-text.ensures in
    let y = subst (λ n. Replayed trace.frames (vec_items trace.entries) n (string_bytes c.in_ok-second.second)) c.name-2.ensures c.in_ok-second.ensures in
    let z = subst (λ n. Replayed trace.frames (vec_items trace.entries) n (string_bytes c.in_ok-third.third)) c.name-3.ensures c.in_ok-third.ensures in
    record {
      first = string_bytes c.in_ok-text.text;
      second = string_bytes c.in_ok-second.second;
      third = string_bytes c.in_ok-third.third;
      whole = joined _ _ _ _ _ _ _ c.in_ok-push_str.ensures.bytes c.as_str.ensures.value c.in_ok-push_str-2.ensures.bytes c.as_str-2.ensures.value;
      radix = x;
      hashed = y;
      pile = z;
      boards_agree = replays_agree trace.frames (vec_items trace.entries) (codes "x86-64") (codes "powerpc") (string_bytes c.in_ok-text.text) (string_bytes c.in_ok-second.second) x y;
      pile_agrees = replays_agree trace.frames (vec_items trace.entries) (codes "x86-64") (codes "pile") (string_bytes c.in_ok-text.text) (string_bytes c.in_ok-third.third) x z;
    }
