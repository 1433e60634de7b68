use Rattle.std.proofs.Common.{false, rules}
use Rattle.rules.specs.State.{no_pages, no_frames, no_counts}
use Rattle.tables.proofs.table.Tables.new.Goals as goal

pub returns : goal.returns
unfolding no_pages no_frames
returns c =
    λ i. record {
      frames = c.args.frames;
      regions = c.in_ok-with_capacity.ensures.items i;
      lies = c.in_ok-vec.ensures.items_if_clones_equal (λ y e. search rules) i;
      owners = c.in_ok-vec-2.ensures.items_if_clones_equal (λ y e. e) i;
      queue = c.in_ok-with_capacity-2.ensures.items i;
      words = c.in_ok-vec-3.ensures.items_if_clones_equal (λ y e. e) i;
      store = c.in_ok-starting_words.ensures.items i;
      wired = c.in_ok-with_capacity-3.ensures.items i;
      dirty = λ _. false;
      counts = no_counts;
    }
