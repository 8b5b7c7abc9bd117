use Rattle.std.proofs.Common.{◌+◌, ◌++◌, cond, length, take, sym, refl, ap, ◌∙◌, add-zero}
use Rattle.console.specs.Cuts.{start, pending}
use Rattle.console.proofs.Newlines.{before_all, found_at, none_at, take_before}
use Rattle.console.proofs.Feeds.{cut_feeds}
use Rattle.console.proofs.cutter.LineCutter.take.Goals as goal

pub returns-in-Some-clause-cuts : goal.returns-in-Some-clause-cuts
returns-in-Some-clause-cuts c =
    let block = c.args.block.now in
    let f = found_at block c.in-Some.n (sym c.newline.ensures ∙ c.in-Some.is) in
    record {
      closed = sym f.0;
      count = λ i. f.1 i + cond (sym f.0 i) 1 0;
      line = c.keep.ensures.items
          ∙ (λ i. start (c.begin.ensures.items i ++ take (f.1 i) block))
          ∙ ap (λ t. start (pending c.args.self.now ++ t)) (take_before block);
      state = refl;
      memory = c.keep.ensures.capacity ∙ c.begin.ensures.capacity;
    }

pub returns-in-None-clause-cuts : goal.returns-in-None-clause-cuts
returns-in-None-clause-cuts c =
    let block = c.args.block.now in
    let f = none_at block (sym c.newline.ensures ∙ c.in-None.is) in
    let all = sym (before_all block f) in
    record {
      closed = sym f;
      count = sym (add-zero (length block)) ∙ (λ i. length (all i) + cond (sym f i) 1 0);
      line = c.keep-in-None.ensures.items ∙ (λ i. start (c.begin.ensures.items i ++ all i));
      state = refl;
      memory = c.keep-in-None.ensures.capacity ∙ c.begin.ensures.capacity;
    }

pub returns-in-Some-clause-fed : goal.returns-in-Some-clause-fed
returns-in-Some-clause-fed c = cut_feeds _ _ _ _ (returns-in-Some-clause-cuts c)

pub returns-in-None-clause-fed : goal.returns-in-None-clause-fed
returns-in-None-clause-fed c = cut_feeds _ _ _ _ (returns-in-None-clause-cuts c)
