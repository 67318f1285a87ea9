-- Why `hexadecimal::read_hex` meets its contract where the library refuses.
use Rattle.std.proofs.Common.{◌≡◌, inl, inr, vec_items, sym, ap, ◌∙◌}
use Rattle.std.specs.Option.{option_map}
use Rattle.std.specs.Result.{result_ok}
use Rattle.words.proofs.Hexes.{hex_as_decoded}
use Rattle.words.proofs.Refusals.{nothing_read, no_memory}
use Rattle.words.specs.Hex.{hex_bytes}
use Rattle.words.proofs.hexadecimal.read_hex.Goals as goal

pub returns-in_err-decode-clause-value : goal.returns-in_err-decode-clause-value
returns-in_err-decode-clause-value c =
    let word = c.args.word.now in
    elim c.in_err-decode.ensures.err [
      | inl out ↦ no_memory _ c.from_residual.result (rw out at c.from_residual.ensures.1)
      | inr bad ↦ nothing_read (λ o. option_map vec_items o ≡ hex_bytes word) c.from_residual.result c.from_residual.ensures.0 (sym (hex_as_decoded word ∙ ap result_ok bad))
    ]
