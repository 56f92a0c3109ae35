pub mod SettingsRange
