-- What a line prints, by the reply to its command. Assumes nothing.
use Rattle.std.proofs.Common.{◌≡◌, ℕ, List, ◌++◌, Some, None, string_bytes, codes, Option, String, ap, ◌∙◌, subst, arith, Bor}
use Rattle.std.specs.declared.alloc.Global.{Global}
use Rattle.pagebook.specs.Commands.{CommandReads}
use Rattle.pagebook.specs.Desks.{View, Reply, Replied, reply}
use Rattle.pagebook.specs.Sessions.{Told, Answers, printed}
use Rattle.pagebook.specs.declared.command.Command.{Command}
use Rattle.text.specs.declared.text_value.TextValue.{Ghosts as Texts}
use Rattle.values.specs.declared.value.Value.{Ghosts}
use Rattle.words.specs.Lines.{Cut, texts}

told_printed : {V : Type 0} (line : List ℕ) (before after : View V) (reply : Option (Reply V)) (answer text : String Global) → Replied reply (Some answer) before after → string_bytes text ≡ line ++ (codes " -> " ++ string_bytes answer) → Told line reply (printed text) before after
told_printed line before after None answer text replied shown = let e = replied.0 in let z : ◌≡◌ {A = ℕ} 0 1 = cc in absurd (omega arith)
told_printed line before after (Some r) answer text replied shown =
    let e = replied.0 in
    let same : string_bytes answer ≡ r.text = cc in
    (shown ∙ ap (λ t. line ++ (codes " -> " ++ t)) same, replied.1)

-- the words of a line and the command that they write, as the code holds them
pub answered : {V : Type 0} (G : Ghosts V) (T : Texts V) (line : List ℕ) (before after : View V) (words items : List (Bor (List ℕ))) → words ≡ items → Cut line (texts items) → (command : Command V) → CommandReads G T (texts words) (Some command) → (answer text : String Global) → Replied (reply G T command before) (Some answer) before after → string_bytes text ≡ line ++ (codes " -> " ++ string_bytes answer) → Answers G T line (printed text) before after
answered G T line before after words items same cut command reads answer text replied shown =
    (texts items, cut, Some command, subst (λ ws. CommandReads G T (texts ws) (Some command)) same reads, told_printed line before after (reply G T command before) answer text replied shown)
