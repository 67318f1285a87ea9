-- Why `hexadecimal::all_digits` meets its contract.
use Rattle.std.proofs.Common.{◌/◌, ◌&&◌, length, sym, ap, ◌∙◌}
use Rattle.std.specs.Char.{is_ascii_hexdigit}
use Rattle.std.specs.List.{list_all}
use Rattle.words.proofs.Chunks.{parts_and_rest}
use Rattle.words.proofs.hexadecimal.all_digits.Goals as goal

pub returns-then-parts_of_digits : goal.returns-then-parts_of_digits
returns-then-parts_of_digits c =
    let word = c.args.word.now in
    let whole = parts_and_rest is_ascii_hexdigit 16 (length word / 16) word _ _ c.as_chunks.ensures.front c.as_chunks.ensures.back in
    c.few_digits.ensures ∙ sym (whole ∙ ap (λ b. b && list_all is_ascii_hexdigit c.as_chunks.result.1.now) (sym c.parts_of_digits.ensures ∙ c.if-parts_of_digits.true))

pub returns-else-parts_of_digits : goal.returns-else-parts_of_digits
returns-else-parts_of_digits c =
    let word = c.args.word.now in
    let whole = parts_and_rest is_ascii_hexdigit 16 (length word / 16) word _ _ c.as_chunks.ensures.front c.as_chunks.ensures.back in
    c.if-parts_of_digits.false ∙ sym (whole ∙ ap (λ b. b && list_all is_ascii_hexdigit c.as_chunks.result.1.now) (sym c.parts_of_digits.ensures ∙ c.if-parts_of_digits.false))
