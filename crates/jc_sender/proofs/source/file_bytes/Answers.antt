-- The limit of a file is 2^30 bytes.
use Rattle.std.proofs.Common.{◌≡◌, ◌+◌, ℕ, IfOk, IfSome, ap, subst, take}
use Rattle.jc_sender.proofs.source.file_bytes.Goals as goal

pub returns-clause-front : goal.returns-clause-front
returns-clause-front g c =
    subst (λ (n : ℕ). IfOk c.read_front.result (λ bytes. IfSome (g.F.Read.remaining c.args.file) (λ held. bytes.items ≡ take n held)))
    (ap (λ (n : ℕ). n + 1) c.default.ensures.file_is) c.read_front.ensures.front
