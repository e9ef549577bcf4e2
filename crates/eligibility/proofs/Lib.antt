mod RuleLaws
mod Picked
