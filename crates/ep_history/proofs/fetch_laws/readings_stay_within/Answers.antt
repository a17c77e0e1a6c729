use Rattle.ep_history.proofs.Fetching.{fetch-within, history-within, step-within}
use Rattle.ep_history.proofs.fetch_laws.readings_stay_within.Goals as goal

pub returns : goal.returns
returns c = record { fetch = fetch-within; history = history-within; steps = step-within }
