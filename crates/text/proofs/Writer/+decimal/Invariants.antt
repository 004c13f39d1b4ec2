-- `text::Writer::decimal` meets its contract, by induction on the number: the digits of a tenth, then the last digit.
-- Assumes nothing.
use Rattle.text.proofs.Writer.+decimal.Given as goal

abbrev pub decreases-decimal : goal.decreases-decimal
decreases-decimal l = l.v
