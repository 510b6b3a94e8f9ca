mod PageLemmas
mod PieceLemmas
mod PlanLemmas
