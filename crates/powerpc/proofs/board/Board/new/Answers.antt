use Rattle.std.proofs.Common.{◌≡◌, vec_items, vec_len, sym, refl, ◌∙◌, lit<}
use Rattle.powerpc_words.proofs.MakingLaws.{framed_zeros, start_is}
use Rattle.powerpc.proofs.board.Board.new.Goals as goal

pub invariant_of-result : goal.invariant_of-result
invariant_of-result c = record {
  sized = c.fill.ensures.len ∙ sym c.len.ensures ∙ c.if-len-ne-WORDS.false;
  marked = c.in-Ok.ensures.len ∙ c.from.ensures;
  pinned = c.in-Ok-vec.ensures.len;
  framed = framed_zeros (vec_len c.args.words) (vec_items c.fill.new.self) (c.fill.ensures.items (λ y e. e));
  turns = lit< tt;
}

pub returns : goal.returns
returns c =
    let n : vec_len c.args.words ≡ 16384 = sym c.len.ensures ∙ c.if-len-ne-WORDS.false in (
      sym c.args.words.ok.0 ∙ n,
      start_is (vec_items c.fill.new.self) (vec_items c.in-Ok.marks) (vec_items c.in-Ok-vec.wired) (vec_len c.args.words) c.from.result 8192
          n c.from.ensures refl (c.fill.ensures.items (λ y e. e)) (c.in-Ok.ensures.items_if_clones_equal (λ y e. e)) (c.in-Ok-vec.ensures.items_if_clones_equal (λ y e. e)),
    )
