-- Why `line::words_of` meets its contract.
use Rattle.std.proofs.Common.{vec_items, lit<}
use Rattle.std.proofs.lemmas.Result.{IfOk-weaker}
use Rattle.words.specs.Lines.{Cut, texts}
use Rattle.words.proofs.Cutting.{cut_run}
use Rattle.words.proofs.line.words_of.Goals as goal

pub returns : goal.returns
returns c =
    IfOk-weaker c.collect.result _ (λ words. Cut c.args.line.now (texts (vec_items words)))
    (λ words run.
    let u = run tt in
    let cut = (c.split.ensures.runs u.0 u.0.seen u.1).2 (lit< tt) ((λ q e. e), (λ w o e. e)) in
    cut_run c.args.line.now u.0 (vec_items words) u.3.0 u.2 cut.0 cut.1)
    c.collect.ensures.runs
