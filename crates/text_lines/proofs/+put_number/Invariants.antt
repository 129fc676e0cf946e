-- The measure of `text_lines::put_number`'s recursion is the number.
use Rattle.text_lines.proofs.+put_number.Given as goal

abbrev pub decreases-put_number : goal.decreases-put_number
decreases-put_number l = l.n
