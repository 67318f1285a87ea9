-- What holds at each turn of the loop of `hexadecimal::digits_in`.
use Rattle.std.proofs.Common.{◌≡◌, take}
use Rattle.std.specs.Char.{is_ascii_hexdigit}
use Rattle.std.specs.List.{list_all}
use Rattle.words.proofs.hexadecimal.digits_in.Given as goal

-- all of those looked at are digits, or not
abbrev pub invariant-loop-c : goal.invariant-loop-c
invariant-loop-c l = list_all is_ascii_hexdigit (take l.c-index l.part) ≡ l.all
