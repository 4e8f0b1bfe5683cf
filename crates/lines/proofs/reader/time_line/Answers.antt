use Rattle.octets.proofs.Numbers.{bytes_of_four, bytes_of_eight, length_bytes_of}
use Rattle.lines.proofs.reader.time_line.Goals as goal

pub returns : goal.returns
returns c = let e = c.to_be_bytes.ensures in let l = length_bytes_of 8 c.args.time in rw (e, l, bytes_of_four 13, bytes_of_four 0, bytes_of_eight c.args.time)
