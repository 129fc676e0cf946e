-- What a listing is answered with.
-- Assumes nothing.
use Rattle.std.specs.Prelude.{ℕ, List}
use Rattle.model.specs.Text.{unless_refused, fitting}
use Rattle.model.specs.Text as m

-- a text put into as many bytes as are lent: 10 is the only refusal
unfoldable pub written_of : ℕ → List ℕ → m.Written
written_of lent bytes = unless_refused (fitting lent bytes) bytes
