use Rattle.std.proofs.Common.{length, sym, refl, ap, ◌∙◌}
use Rattle.std.proofs.lemmas.List.{with_items_is}
use Rattle.std.proofs.lemmas.Result.{MatchResult-weaker}
use Rattle.memory_meaning.proofs.Syncs.{stores_moved}
use Rattle.memory.proofs.syncing.store_object.Goals as goal

pub returns : goal.returns
returns g c =
    let t = c.args.tables.now in
    let before = c.deref_mut.ensures.value in
    record {
      stores = MatchResult-weaker c.store_pages.result c.store_pages.ensures.stores
          (λ n below. record {
            pages = stores_moved _ _ _ _ _ _ _ _ _ _ _ _ _ before
                (sym (with_items_is t.store c.store_pages.new.store (below.long ∙ ap length before ∙ sym t.store.ok.0)))
                c.deref-2.ensures.value c.deref.ensures.value below;
            rest = λ d k. refl;
          })
          (λ _ e. e);
      kept = c.store_pages.ensures.kept;
    }
