-- What is asked of a rule that cuts a loop into triangles: the theorem holds for every such rule, document 01's fan among them.
-- Assumes nothing.
use Rattle.std.specs.Prelude.{ℕ, zero, suc, ◌+◌, ◌<◌, ◌≡◌, List, [], ◌∷◌, ◌++◌, length, get_or, take, drop}
use Rattle.base.specs.Lists.{sum}
use Rattle.rules.specs.Steps.{Triangle}
use Rattle.rules.specs.Closing.{run}

-- a weight of steps, with each step turned round
abbrev pub turn : (ℕ → ℕ → ℕ) → ℕ → ℕ → ℕ
turn w a b = w b a

-- a weight of steps, summed over the way from v by the points us to z
abbrev pub path : (ℕ → ℕ → ℕ) → ℕ → List ℕ → ℕ → ℕ
path w v [] z = w v z
path w v (u ∷ us) z = w v u + path w u us z

-- a weight of steps, summed over the steps of a loop, the last one going back to its first point
abbrev pub cycle : (ℕ → ℕ → ℕ) → List ℕ → ℕ
cycle w [] = 0
cycle w (z ∷ us) = path w z us z

-- The triangles of a loop run along its steps and, as often one way as the other, along everything else: for every weight of steps, what the
-- triangles run less what they run turned round is what the loop steps less what it steps turned round. (Here without differences.)
abbrev pub Closes : (List ℕ → List Triangle) → Type 0
Closes cutting = (w : ℕ → ℕ → ℕ) (l : List ℕ)
    → sum (run w) (cutting l) + cycle (turn w) l ≡ sum (run (turn w)) (cutting l) + cycle w l

-- ---- cutting by any choice of third points

-- `choose` names an index of the list
abbrev pub Chooses : (ℕ → List ℕ → ℕ → ℕ) → Type 0
Chooses choose = (a u : ℕ) (us : List ℕ) (b : ℕ) → choose a (u ∷ us) b < length (u ∷ us)

-- The triangles of a part with the first point a, the points us and the last point b, closed by the edge from b to a. The third point on that
-- edge is the one at the index that `choose` names; n bounds the depth.
abbrev pub cut_by : (ℕ → List ℕ → ℕ → ℕ) → ℕ → ℕ → List ℕ → ℕ → List Triangle
cut_by choose zero a us b = []
cut_by choose (suc n) a [] b = []
cut_by choose (suc n) a (u ∷ us) b =
    let i : ℕ = choose a (u ∷ us) b in
    let k : ℕ = get_or (u ∷ us) i 0 in
    (a, k, b) ∷ (cut_by choose n a (take i (u ∷ us)) k ++ cut_by choose n k (drop (suc i) (u ∷ us)) b)

-- the points of a ∷ us but the last, and the last
unfoldable pub initial : ℕ → List ℕ → List ℕ
initial a [] = []
initial a (u ∷ us) = a ∷ initial u us

unfoldable pub final : ℕ → List ℕ → ℕ
final a [] = a
final a (u ∷ us) = final u us

-- a loop, as one part from its first to its last point
unfoldable pub cut_loop : (ℕ → List ℕ → ℕ → ℕ) → List ℕ → List Triangle
unfolding initial final
cut_loop choose [] = []
cut_loop choose (z ∷ []) = []
cut_loop choose (z ∷ v ∷ us) = cut_by choose (length us) z (initial v us) (final v us)
