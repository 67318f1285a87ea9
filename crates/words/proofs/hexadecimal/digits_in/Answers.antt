-- Why `hexadecimal::digits_in` meets its contract.
use Rattle.std.proofs.Common.{◌&&◌, refl, sym, ap, ap₂, ◌∙◌, arith}
use Rattle.std.proofs.lemmas.List.{take_all}
use Rattle.std.proofs.lemmas.List.Folds.{list_all_more}
use Rattle.std.specs.Char.{is_ascii_hexdigit}
use Rattle.std.specs.List.{list_all}
use Rattle.words.proofs.hexadecimal.digits_in.Goals as goal

pub loop-c-init : goal.loop-c-init
loop-c-init c = refl

pub loop-c-preserved : goal.loop-c-preserved
loop-c-preserved c =
    let part = c.args.part.now in
    let k = c.loop-c.c-index in
    list_all_more is_ascii_hexdigit part k 0 (omega (arith, c.told-part)) ∙ ap₂ ◌&&◌ c.loop-c.invariant (sym c.is_ascii_hexdigit-all.ensures.value)

pub returns : goal.returns
returns c =
    sym c.loop-c.invariant ∙ ap (list_all is_ascii_hexdigit) (take_all c.loop-c.c-index c.args.part.now (omega (arith, c.told-part)))
