-- `writing::put_digits` ends: the measure is the number of places.
-- Assumes nothing.
use Rattle.fox_text_write.proofs.writing.+put_digits.Given as goal

abbrev pub decreases-put_digits : goal.decreases-put_digits
decreases-put_digits l = l.places
