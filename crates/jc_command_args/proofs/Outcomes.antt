-- The program's grammar is one that clap's definitions cover, and what follows for the words.
use Rattle.std.proofs.Common.{◌≡◌, ◌⊎◌, ◌∙◌, ap, refl, sym, subst, inl, inr, true, List, Option, Some, None}
use Rattle.std.specs.Prelude.{IfErr, IfOk, IsSomeAnd, Result, Ok, Err}
use Rattle.clap.specs.Words.{App, FailsBy, HasKind, HasMatchesOf, Row, Text, fault_of, is_simple, is_simple_and_free, kind_of, subcommand_rows_of}
use Rattle.clap.specs.declared.error.Error.{Error}
use Rattle.clap.specs.declared.error.kind.ErrorKind.TheVariants.{OutOfMemory, ArgumentConflict}
use Rattle.clap.proofs.OnLiterals.{clap_on_literals}
use Rattle.clap.specs.declared.builder.value_parser.ValueParser.{ValueParser}
use Rattle.clap.specs.declared.parser.matches.ArgMatches.{ArgMatches}
use Rattle.jc_command_args.specs.declared.request.Request.{Request}
use Rattle.jc_command_args.specs.Grammar.{IsGrammar, grammar}
use Rattle.jc_command_args.specs.Words.{AreAnswered, AreRight, AskFor, Asks, AsksNothing}

computed : (collect migrate tasks verify upload ack : ValueParser) → is_simple_and_free (grammar collect migrate tasks verify upload ack) ≡ true
unfolding clap_on_literals
computed collect migrate tasks verify upload ack = refl

computed_simple : (collect migrate tasks verify upload ack : ValueParser) → is_simple (grammar collect migrate tasks verify upload ack) ≡ true
unfolding clap_on_literals
computed_simple collect migrate tasks verify upload ack = refl

pub simple_and_free : (app : App) → IsGrammar app → is_simple_and_free app ≡ true
simple_and_free app ours = ap is_simple_and_free ours.whole ∙ computed ours.collect ours.migrate ours.tasks ours.verify ours.upload ours.ack

pub simple : (app : App) → IsGrammar app → is_simple app ≡ true
simple app ours = ap is_simple ours.whole ∙ computed_simple ours.collect ours.migrate ours.tasks ours.verify ours.upload ours.ack

-- what clap finds in the words is what they name
pub right : (app : App) (words : List Text) (r : Result ArgMatches Error) → IsGrammar app → FailsBy (fault_of app words) r
    → IfOk r (HasMatchesOf app words) → IfOk r (λ matches. AreRight words (subcommand_rows_of matches))
right app words (Ok matches) ours fails has =
    record { app = app; ours = ours; right = fails; met = (has (simple app ours)).1 }
right app words (Err e) ours fails has = tt

-- an error that clap gives is one that the words have
pub answered : (app : App) (words : List Text) (r : Result ArgMatches Error) → IsGrammar app → FailsBy (fault_of app words) r
    → IfErr r (λ e. (kind_of e ≡ OutOfMemory) ⊎ AreAnswered words (kind_of e))
answered app words (Ok matches) ours fails = tt
answered app words (Err e) ours fails = by_kind fails
  where
    by_kind : HasKind (fault_of app words) e → (kind_of e ≡ OutOfMemory) ⊎ AreAnswered words (kind_of e)
    by_kind (inl memory) = inl memory
    by_kind (inr among) = inr (record { app = app; ours = ours; why = inl among })

-- what the matches ask for is what the words ask for
pub asked : (words : List Text) (rows : Option (Text × List Row)) (r : Result Request Error) → AreRight words rows
    → IfOk r (λ request. IsSomeAnd rows (λ found. Asks found request)) → IfOk r (AskFor words)
asked words None (Ok request) are asks = absurd asks
asked words (Some found) (Ok request) are asks =
    record { app = are.app; ours = are.ours; right = are.right; found = found; met = sym are.met; asked = asks }
asked words rows (Err e) are asks = tt

-- where the matches ask for nothing, the words do
pub nothing : (words : List Text) (rows : Option (Text × List Row)) (r : Result Request Error) → AreRight words rows
    → IfErr r (λ e. (kind_of e ≡ OutOfMemory) ⊎ ((kind_of e ≡ ArgumentConflict) × AsksNothing rows))
    → IfErr r (λ e. (kind_of e ≡ OutOfMemory) ⊎ AreAnswered words (kind_of e))
nothing words rows (Ok request) are why = tt
nothing words rows (Err e) are why = by_kind why
  where
    by_kind : (kind_of e ≡ OutOfMemory) ⊎ ((kind_of e ≡ ArgumentConflict) × AsksNothing rows)
        → (kind_of e ≡ OutOfMemory) ⊎ AreAnswered words (kind_of e)
    by_kind (inl memory) = inl memory
    by_kind (inr none) =
        inr (record { app = are.app; ours = are.ours; why = inr (none.0, subst AsksNothing are.met none.1) })
