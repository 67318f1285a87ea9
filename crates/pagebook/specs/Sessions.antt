-- What each line of a session gets, and the session that it leaves. Assumes nothing.
use Rattle.std.specs.Prelude.{◌≡◌, ℕ, List, ◌++◌, Some, None, Ok, Err, string_bytes, codes, IsUtf8, MatchBool, Option, MatchOption, Result, String}
use Rattle.pagebook.specs.Commands.{CommandReads}
use Rattle.pagebook.specs.Desks.{View, Reply, view, bare, reply}
use Rattle.pagebook.specs.declared.command.Command.{Command}
use Rattle.pagebook.specs.Stages.{ignored, stage_named}
use Rattle.pagebook.specs.declared.session.Session.{Session}
use Rattle.pagebook.specs.declared.session.Session.TheVariants as sessions
use Rattle.pagebook.specs.declared.session.Stage.{Stage}
use Rattle.pagebook.specs.declared.session.Stage.TheVariants.{Start, Rates, Fingerprints}
use Rattle.std.specs.declared.alloc.Global.{Global}
use Rattle.text.specs.contracts.fingerprint_text.FingerprintTextValue.TheImpl.{ghosts as fingerprint_texts}
use Rattle.text.specs.contracts.rate_text.RateTextValue.TheImpl.{ghosts as rate_texts}
use Rattle.text.specs.declared.text_value.TextValue.{Ghosts as Texts}
use Rattle.values.specs.contracts.fingerprint_value.FingerprintValue.TheImpl.{ghosts as fingerprint_values}
use Rattle.values.specs.contracts.rate_value.RateValue.TheImpl.{ghosts as rate_values}
use Rattle.values.specs.declared.fingerprint.Fingerprint.{Fingerprint}
use Rattle.values.specs.declared.rate.Rate.{Rate}
use Rattle.values.specs.declared.value.Value.{Ghosts}
use Rattle.words.specs.Lines.{Cut}
use Rattle.words.specs.declared.refusal.Refusal.{Refusal}
use Rattle.words.specs.declared.refusal.Refusal.TheVariants.{Malformed, OutOfMemory}

-- what a line gets: it is ignored, it prints a text, or it is malformed or not allowed where it stands
pub data Outcome : Type 0 where
  silent : Outcome
  printed : String Global → Outcome
  refused : Outcome

-- a line that is answered prints itself, an arrow and the answer
abbrev pub PrintsAnswer : List ℕ → Outcome → List ℕ → Type 0
PrintsAnswer line silent answer = ⊥
PrintsAnswer line (printed text) answer = string_bytes text ≡ line ++ (codes " -> " ++ answer)
PrintsAnswer line refused answer = ⊥

module _ {V : Type 0} where
  -- a line that is refused leaves the desk as it was, and one that is answered leaves what its reply says
  abbrev pub Told : List ℕ → Option (Reply V) → Outcome → View V → View V → Type 0
  Told line r outcome before after =
      MatchOption r ((outcome ≡ refused) × (after ≡ before)) (λ a. PrintsAnswer line outcome a.text × (after ≡ a.desk))

-- a line is cut into words, the words write a command, and the desk replies to it; or the line is refused
abbrev pub Answers : {V : Type 0} (G : Ghosts V) (T : Texts V) → List ℕ → Outcome → View V → View V → Type 0
Answers {V} G T line outcome before after =
    (words : List (List ℕ)) × Cut line words × (command : Option (Command V)) × CommandReads G T words command
    × MatchOption command ((outcome ≡ refused) × (after ≡ before)) (λ c. Told line (reply G T c before) outcome before after)

-- what is seen of a session: no kind of value named yet, or one with the view of its desk
pub data SessionView : Type 0 where
  start : SessionView
  rates : View Rate → SessionView
  fingerprints : View Fingerprint → SessionView

abbrev pub session_view : Session → SessionView
session_view sessions.Start = start
session_view (sessions.Rates desk) = rates (view desk)
session_view (sessions.Fingerprints desk) = fingerprints (view desk)

-- the stage of a session
abbrev pub stage_of : Session → Stage
stage_of sessions.Start = Start
stage_of (sessions.Rates desk) = Rates
stage_of (sessions.Fingerprints desk) = Fingerprints

-- a session that was just brought to a stage
abbrev pub begun : Stage → SessionView
begun Start = start
begun Rates = rates bare
begun Fingerprints = fingerprints bare

-- the first line names the kind of value, and those after it are commands
abbrev pub Speaks : SessionView → List ℕ → Outcome → SessionView → Type 0
Speaks start line outcome after =
    MatchOption (stage_named line) ((outcome ≡ refused) × (after ≡ start)) (λ named. PrintsAnswer line outcome (codes "0") × (after ≡ begun named))
Speaks (rates d) line outcome after = (e : View Rate) × (after ≡ rates e) × Answers rate_values rate_texts line outcome d e
Speaks (fingerprints d) line outcome after =
    (e : View Fingerprint) × (after ≡ fingerprints e) × Answers fingerprint_values fingerprint_texts line outcome d e

-- an ignored line prints nothing and leaves the session; so does one that is no text, but it is refused
abbrev pub Replies : SessionView → List ℕ → Outcome → SessionView → Type 0
Replies before line outcome after =
    MatchBool (ignored line) ((outcome ≡ silent) × (after ≡ before))
    ((IsUtf8 line → Speaks before line outcome after) × ((IsUtf8 line → ⊥) → (outcome ≡ refused) × (after ≡ before)))

-- what a line that is not ignored got, unless memory ran out
abbrev pub spoken : Option (String Global) → Outcome
spoken None = refused
spoken (Some text) = printed text

-- what a line got, unless memory ran out
abbrev pub outcome_of : Result (Option (String Global)) Refusal → Option Outcome
outcome_of (Ok None) = Some silent
outcome_of (Ok (Some text)) = Some (printed text)
outcome_of (Err Malformed) = Some refused
outcome_of (Err OutOfMemory) = None
