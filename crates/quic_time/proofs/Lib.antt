pub mod RttLaws
pub mod TimerLaws
