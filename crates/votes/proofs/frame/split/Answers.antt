-- Why `frame::split` meets its contract.
use Rattle.std.proofs.Common.{◌<◌, length, arith, rules, lit<}
use Rattle.votes.specs.Frames.{fields}
use Rattle.votes.proofs.Framing.{unreadable, readable_whole, numbers_from_parts, header_byte}
use Rattle.votes.proofs.frame.split.Goals as goal
use Rattle.votes.proofs.frame.split.Goals.{then-length-frame_length-via-then-length-frame_length, then-length-frame_length-via-else-length-frame_length+then-version-ne-VERSION, then-length-frame_length-via-else-length-frame_length+else-version-ne-VERSION+then-value-width}

pub returns-in_err-header : goal.returns-in_err-header
returns-in_err-header g c =
    let short : length c.args.bytes.now < 13 = search rules in
    let unread = unreadable g.V.Value c.args.bytes.now (λ r. omega (arith, r.long)) in
    search rules

pub returns-then-length-frame_length : goal.returns-then-length-frame_length
returns-then-length-frame_length g c =
    let bs = c.args.bytes.now in
    let header = c.in_ok-header.ensures.cases in
    let at = header_byte g.V.Value bs c.in_ok-header.header.now header.0 in
    unreadable g.V.Value bs (λ r. elim c.then-length-frame_length.branch [
      | then-length-frame_length-via-then-length-frame_length w ↦
          w.if-length-frame_length.true (omega (arith, r.counted, c.from_be_bytes-length.ensures, c.frame_length.ensures, at 0 (lit< tt), at 1 (lit< tt)))
      | then-length-frame_length-via-else-length-frame_length+then-version-ne-VERSION w ↦
          w.if-version-ne-VERSION.true (omega (arith, r.current, at 2 (lit< tt)))
      | then-length-frame_length-via-else-length-frame_length+else-version-ne-VERSION+then-value-width w ↦
          w.if-value-width.true (omega (arith, r.long, w.width.ensures, header.2))
    ])

pub returns : goal.returns
unfolding fields
returns g c =
    let bs = c.args.bytes.now in
    let header = c.in_ok-header.ensures.cases in
    let at = header_byte g.V.Value bs c.in_ok-header.header.now header.0 in
    let whole = readable_whole g.V.Value bs (record {
      long = omega (arith, c.if-value-width.false, c.width.ensures, header.2);
      counted = omega (arith, c.from_be_bytes-length.ensures, c.frame_length.ensures, c.if-length-frame_length.false, at 0 (lit< tt), at 1 (lit< tt));
      current = omega (arith, c.if-version-ne-VERSION.false, at 2 (lit< tt));
    }) in
    let numbers = numbers_from_parts _ _
    (omega (arith, at 3 (lit< tt)))
    (omega (arith, c.from_be_bytes.ensures, at 4 (lit< tt), at 5 (lit< tt), at 6 (lit< tt), at 7 (lit< tt)))
    (omega (arith, c.from_be_bytes-2.ensures, at 8 (lit< tt), at 9 (lit< tt)))
    (omega (arith, at 10 (lit< tt)))
    (omega (arith, at 11 (lit< tt)))
    (omega (arith, at 12 (lit< tt))) in
    (whole, numbers, header.1)
