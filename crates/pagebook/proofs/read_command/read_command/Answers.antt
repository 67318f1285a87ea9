-- Why `read_command::read_command` meets its contract.
use Rattle.std.proofs.Common.{Some, refl, rules, arith}
use Rattle.pagebook.specs.Commands.{ReadWords, PostWords, FillWords, PokeWords, FetchWords, CommandReads}
use Rattle.pagebook.proofs.Reading.{none_of, one_of, two_of, three_of, first_of, with_words, begins, stopped, went_on, place_read, unwritten}
use Rattle.pagebook.proofs.read_command.read_command.Goals as goal

pub returns-in_default : goal.returns-in_default
unfolding CommandReads
returns-in_default g c =
    rw (none_of c.args.words.now (search rules))

pub returns-in_err-read_vote-in-frame-default : goal.returns-in_err-read_vote-in-frame-default
unfolding CommandReads
returns-in_err-read_vote-in-frame-default g c =
    rw (with_words _ _ _ c.in-len1-up.len_at_least c.in-frame-default.is-frame-0 refl, begins) (stopped _ _ c.read_vote.result _ _ c.in_err-read_vote-in-frame-default.was c.from_residual.ensures.1 c.read_vote.ensures)

pub returns-in_ok-read_vote-in-frame-default : goal.returns-in_ok-read_vote-in-frame-default
unfolding CommandReads
returns-in_ok-read_vote-in-frame-default g c =
    rw (with_words _ _ _ c.in-len1-up.len_at_least c.in-frame-default.is-frame-0 refl, begins) (Some _, (rw c.in_ok-read_vote-in-frame-default.was at c.read_vote.ensures), refl)

pub returns-in_err-read_vote-in-send-default : goal.returns-in_err-read_vote-in-send-default
unfolding CommandReads
returns-in_err-read_vote-in-send-default g c =
    rw (with_words _ _ _ c.in-len1-up.len_at_least c.in-send-default.is-send-0 refl, begins) (stopped _ _ c.read_vote-in-send-default.result _ _ c.in_err-read_vote-in-send-default.was c.from_residual-in_err-read_vote-in-send-default.ensures.1 c.read_vote-in-send-default.ensures)

pub returns-in_ok-read_vote-in-send-default : goal.returns-in_ok-read_vote-in-send-default
unfolding CommandReads
returns-in_ok-read_vote-in-send-default g c =
    rw (with_words _ _ _ c.in-len1-up.len_at_least c.in-send-default.is-send-0 refl, begins) (Some _, (rw c.in_ok-read_vote-in-send-default.was at c.read_vote-in-send-default.ensures), refl)

pub returns-in_err-read_bytes-in-read-len1 : goal.returns-in_err-read_bytes-in-read-len1
unfolding CommandReads ReadWords
returns-in_err-read_bytes-in-read-len1 g c =
    rw (with_words _ _ _ c.in-len1-up.len_at_least c.in-read-len1.is-read-0 (one_of _ (search rules))) (stopped _ _ c.read_bytes.result _ _ c.in_err-read_bytes-in-read-len1.was c.from_residual-in_err-read_bytes-in-read-len1.ensures.1 c.read_bytes.ensures)

pub returns-in_ok-read_bytes-in-read-len1 : goal.returns-in_ok-read_bytes-in-read-len1
unfolding CommandReads ReadWords
returns-in_ok-read_bytes-in-read-len1 g c =
    rw (with_words _ _ _ c.in-len1-up.len_at_least c.in-read-len1.is-read-0 (one_of _ (search rules))) (Some _, (rw c.in_ok-read_bytes-in-read-len1.was at c.read_bytes.ensures), refl)

pub returns-in-post-len2 : goal.returns-in-post-len2
unfolding CommandReads PostWords
returns-in-post-len2 g c =
    rw (with_words _ _ _ c.in-len1-up.len_at_least c.in-post-len2.is-post-0 (two_of _ (search rules))) c.read_post.ensures.value

pub returns-in-post-len3 : goal.returns-in-post-len3
unfolding CommandReads PostWords
returns-in-post-len3 g c =
    rw (with_words _ _ _ c.in-len1-up.len_at_least c.in-post-len3.is-post-0 (three_of _ (search rules))) c.read_post-in-post-len3.ensures.value

pub returns-in_err-number_in-in-fill-len1-up : goal.returns-in_err-number_in-in-fill-len1-up
unfolding CommandReads FillWords
returns-in_err-number_in-in-fill-len1-up g c =
    let place = place_read _ c.number_in.result c.number_in.ensures in
    rw (with_words _ _ _ c.in-len1-up.len_at_least c.in-fill-len1-up.is-fill-0 (first_of _ (search rules))) (simp begins (stopped _ _ c.number_in.result _ _ c.in_err-number_in-in-fill-len1-up.was c.from_residual-in_err-number_in-in-fill-len1-up.ensures.1 place))

pub returns-in_err-read_vote-in-fill-len1-up : goal.returns-in_err-read_vote-in-fill-len1-up
unfolding CommandReads FillWords
returns-in_err-read_vote-in-fill-len1-up g c =
    let place = place_read _ c.number_in.result c.number_in.ensures in
    rw (with_words _ _ _ c.in-len1-up.len_at_least c.in-fill-len1-up.is-fill-0 (first_of _ (search rules))) (simp begins (went_on _ _ c.number_in.result _ _ c.in_ok-number_in-in-fill-len1-up.was place (stopped _ _ c.read_vote-in-fill-len1-up.result c.from_residual-in_err-read_vote-in-fill-len1-up.result _ c.in_err-read_vote-in-fill-len1-up.was c.from_residual-in_err-read_vote-in-fill-len1-up.ensures.1 c.read_vote-in-fill-len1-up.ensures)))

pub returns-in_ok-read_vote-in-fill-len1-up : goal.returns-in_ok-read_vote-in-fill-len1-up
unfolding CommandReads FillWords
returns-in_ok-read_vote-in-fill-len1-up g c =
    let place = place_read _ c.number_in.result c.number_in.ensures in
    rw (with_words _ _ _ c.in-len1-up.len_at_least c.in-fill-len1-up.is-fill-0 (first_of _ (search rules))) (simp begins (Some _, (rw c.in_ok-number_in-in-fill-len1-up.was at place), (Some _, (rw c.in_ok-read_vote-in-fill-len1-up.was at c.read_vote-in-fill-len1-up.ensures), refl)))

pub returns-in_err-number_in-in-poke-len2 : goal.returns-in_err-number_in-in-poke-len2
unfolding CommandReads PokeWords
returns-in_err-number_in-in-poke-len2 g c =
    let offset = place_read _ c.number_in-in-poke-len2.result c.number_in-in-poke-len2.ensures in
    rw (with_words _ _ _ c.in-len1-up.len_at_least c.in-poke-len2.is-poke-0 (two_of _ (search rules))) (stopped _ _ c.number_in-in-poke-len2.result _ _ c.in_err-number_in-in-poke-len2.was c.from_residual-in_err-number_in-in-poke-len2.ensures.1 offset)

pub returns-in_err-read_bytes-in-poke-len2 : goal.returns-in_err-read_bytes-in-poke-len2
unfolding CommandReads PokeWords
returns-in_err-read_bytes-in-poke-len2 g c =
    let offset = place_read _ c.number_in-in-poke-len2.result c.number_in-in-poke-len2.ensures in
    rw (with_words _ _ _ c.in-len1-up.len_at_least c.in-poke-len2.is-poke-0 (two_of _ (search rules))) (went_on _ _ c.number_in-in-poke-len2.result _ _ c.in_ok-number_in-in-poke-len2.was offset (stopped _ _ c.read_bytes-in-poke-len2.result c.from_residual-in_err-read_bytes-in-poke-len2.result _ c.in_err-read_bytes-in-poke-len2.was c.from_residual-in_err-read_bytes-in-poke-len2.ensures.1 c.read_bytes-in-poke-len2.ensures))

pub returns-in_ok-read_bytes-in-poke-len2 : goal.returns-in_ok-read_bytes-in-poke-len2
unfolding CommandReads PokeWords
returns-in_ok-read_bytes-in-poke-len2 g c =
    let offset = place_read _ c.number_in-in-poke-len2.result c.number_in-in-poke-len2.ensures in
    rw (with_words _ _ _ c.in-len1-up.len_at_least c.in-poke-len2.is-poke-0 (two_of _ (search rules))) (Some _, (rw c.in_ok-number_in-in-poke-len2.was at offset), (Some _, (rw c.in_ok-read_bytes-in-poke-len2.was at c.read_bytes-in-poke-len2.ensures), refl))

pub returns-in_err-number_in-in-fetch-len1 : goal.returns-in_err-number_in-in-fetch-len1
unfolding CommandReads FetchWords
returns-in_err-number_in-in-fetch-len1 g c =
    let place = place_read _ c.number_in-in-fetch-len1.result c.number_in-in-fetch-len1.ensures in
    rw (with_words _ _ _ c.in-len1-up.len_at_least c.in-fetch-len1.is-fetch-0 (one_of _ (search rules))) (stopped _ _ c.number_in-in-fetch-len1.result _ _ c.in_err-number_in-in-fetch-len1.was c.from_residual-in_err-number_in-in-fetch-len1.ensures.1 place)

pub returns-in_ok-number_in-in-fetch-len1 : goal.returns-in_ok-number_in-in-fetch-len1
unfolding CommandReads FetchWords
returns-in_ok-number_in-in-fetch-len1 g c =
    let place = place_read _ c.number_in-in-fetch-len1.result c.number_in-in-fetch-len1.ensures in
    rw (with_words _ _ _ c.in-len1-up.len_at_least c.in-fetch-len1.is-fetch-0 (one_of _ (search rules))) (Some _, (rw c.in_ok-number_in-in-fetch-len1.was at place), refl)

pub returns-in-count-empty : goal.returns-in-count-empty
unfolding CommandReads
returns-in-count-empty g c =
    rw (with_words _ _ _ c.in-len1-up.len_at_least c.in-count-empty.is-count-0 (none_of _ (search rules)))

pub returns-in-votes-empty : goal.returns-in-votes-empty
unfolding CommandReads
returns-in-votes-empty g c =
    rw (with_words _ _ _ c.in-len1-up.len_at_least c.in-votes-empty.is-votes-0 (none_of _ (search rules)))

pub returns-in_default-2 : goal.returns-in_default-2
returns-in_default-2 g c =
    elim c.in_default-2.branch [
      | goal.in_default-2-via-in-read-0+then-this-lt1 w ↦ search (rules, arith, unwritten)
      | goal.in_default-2-via-in-read-0+else-this-lt1+else-this-lt2 w ↦ search (rules, arith, unwritten)
      | goal.in_default-2-via-in-post-0+then-this-lt2-2 w ↦ search (rules, arith, unwritten)
      | goal.in_default-2-via-in-post-0+else-this-lt2-2+else-this-lt3+else-this-lt4 w ↦ search (rules, arith, unwritten)
      | goal.in_default-2-via-in-fill-0+then-this-lt1-2 w ↦ search (rules, arith, unwritten)
      | goal.in_default-2-via-in-poke-0+then-this-lt2-3 w ↦ search (rules, arith, unwritten)
      | goal.in_default-2-via-in-poke-0+else-this-lt2-3+else-this-lt3-2 w ↦ search (rules, arith, unwritten)
      | goal.in_default-2-via-in-fetch-0+then-this-lt1-3 w ↦ search (rules, arith, unwritten)
      | goal.in_default-2-via-in-fetch-0+else-this-lt1-3+else-this-lt2-4 w ↦ search (rules, arith, unwritten)
      | goal.in_default-2-via-in-count-0+else-this-lt1-4 w ↦ search (rules, arith, unwritten)
      | goal.in_default-2-via-in-votes-0+else-this-lt1-5 w ↦ search (rules, arith, unwritten)
      | goal.in_default-2-via-in_default-2 w ↦ search (rules, arith, unwritten)
    ]
