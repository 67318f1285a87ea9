-- What holds at each turn of the loop of `answers::votes_text`.
use Rattle.std.proofs.Common.{◌≡◌, ◌++◌, string_bytes}
use Rattle.pagebook.specs.Answers.{vote_lines, votes_answer}
use Rattle.posts.specs.Posts.{votes_left}
use Rattle.pagebook.proofs.answers.votes_text.Given as goal

-- the text, and the lines of the votes that are left, are the whole answer
abbrev pub invariant-loop-place : goal.invariant-loop-place
invariant-loop-place g l =
    let left = votes_left g.P.Post.votes l.place-iterator.iter in
    string_bytes l.text ++ vote_lines g.V.Value g.V.TextValue l.place-iterator.count left ≡ votes_answer g.V.Value g.V.TextValue (g.P.Post.votes l.post)
