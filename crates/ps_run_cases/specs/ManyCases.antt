-- Forty who have subscribed: all are told, or those alone who may read.
use Rattle.std.specs.Prelude.{ℕ, zero, suc, ◌+◌, List, [], ◌∷◌, ◌++◌, drop, codes}
use Rattle.std.specs.Fmt.{decimal}
use Rattle.ps_types.specs.Tree.{Tree}
use Rattle.ps_types.specs.declared.entry.Notice.{Notice}
use Rattle.ps_model_cases.specs.Case.{Exchange}
use Rattle.ps_model_cases.specs.Handed.{event_of, headline}
use Rattle.ps_model_cases.specs.Words.{ann, news, of_b, to_b, sets, done, field, create, configure, publish, published, subscribe, subscribed, affiliation, affiliate}

-- `u000` to `u039`
abbrev pub name : ℕ → List ℕ
name k = codes "u" ++ drop 1 (decimal (1000 + k))

abbrev pub address : ℕ → List ℕ
address k = name k ++ codes "@b.example"

-- so many from the k-th on, the first of them at that line
abbrev pub subscribe_all : ℕ → ℕ → List Exchange → List Exchange
subscribe_all k zero rest = rest
subscribe_all k (suc n) rest =
    done (sets (of_b (address k ++ codes "/1")) (k + 1) (subscribe (address k) news)) (subscribed (address k) news) ∷ subscribe_all (k + 1) n rest

-- every one of them, or every second
abbrev pub told_from : ℕ → ℕ → ℕ → ℕ → List Notice
told_from place by k zero = []
told_from place by k (suc n) = headline (to_b (name k) []) place 1 (event_of news (codes "i") ∷ []) ∷ told_from place by (k + by) n

abbrev pub all : List Exchange
all =
    done (sets ann 1 (create news)) []
    ∷ subscribe_all 0 40 (done (sets ann 2 (publish news (codes "i"))) (published news (codes "i")) ∷ [])

abbrev pub all_told : List Notice
all_told = told_from 42 1 0 40

abbrev pub members_from : ℕ → ℕ → List Tree
members_from k zero = []
members_from k (suc n) = affiliation (address k) (codes "member") ∷ members_from (k + 2) n

-- the node is closed, and the even ones are its members
abbrev pub half : List Exchange
half =
    done (sets ann 1 (create news)) []
    ∷ subscribe_all 0 40 (
    done (sets ann 2 (configure news (field (codes "access_model") (codes "whitelist") ∷ []))) []
    ∷ done (sets ann 3 (affiliate news (members_from 0 20))) []
    ∷ done (sets ann 4 (publish news (codes "i"))) (published news (codes "i"))
    ∷ [])

abbrev pub half_told : List Notice
half_told = told_from 44 2 0 20
